-- What the board promises beyond its single contracts: it does the meaning's step, stays within the limits, and leaves no choice. Assumes nothing.
use Rattle.std.specs.Prelude.{ℕ, ◌≤◌, ◌≡◌, true, List, Some, None, Result, Ok, length}
use Rattle.meaning.specs.Bytes.{pick, put, longest_reply, longest_request}
use Rattle.meaning.specs.State.{Plate, plate_ok, state_ok, fresh}
use Rattle.meaning.specs.Fields.{memory_length}
use Rattle.meaning.specs.Run.{Call, step, closes, carried}
use Rattle.board.specs.declared.limits.Board.{Board}
use Rattle.board.specs.declared.calls.Refusal.{Refusal}
use Rattle.board.specs.declared.calls.Stepped.{Stepped}
use Rattle.board.specs.Board.{state_of, told_of, carried_of, board_after, Steps}

-- the call does the meaning's step: state, memory, reply; and its answer carries what remains after it
pub record DoesStep (p : Plate) (b : Board) (kept m w : List ℕ) (g : Call) (r : Result Stepped Refusal) (kept' m' w' : List ℕ) : Type 0 where
  pub state : state_of (board_after b r) kept' ≡ (step p (state_of b kept) m g).state
  pub memory : m' ≡ (step p (state_of b kept) m g).memory
  pub room : w' ≡ put w 0 (step p (state_of b kept) m g).reply
  pub outcome : told_of r ≡ Ok (pick (closes p (state_of b kept) g) (Some (length (step p (state_of b kept) m g).reply)) None)
  pub sleep : carried_of g r ≡ carried p (step p (state_of b kept) m g).state g

-- plate, state, kept bytes and memory are within their limits: no R1, no R2
pub record Within (p : Plate) (b : Board) (kept m : List ℕ) : Type 0 where
  pub plate : plate_ok p ≡ true
  pub state : state_ok p (state_of b kept) ≡ true
  pub few : b.frame.len ≤ longest_request
  pub places : length kept ≡ longest_request
  pub size : length m ≡ memory_length p.total

-- what a host holds that starts fresh with a good plate, 135 places and a memory of the right size, and only calls, with room enough
pub data SinceFresh (p : Plate) : Board → List ℕ → List ℕ → Type 0 where
  start : (b : Board) (kept m : List ℕ) → plate_ok p ≡ true → length kept ≡ longest_request → length m ≡ memory_length p.total → b.frame.len ≤ longest_request → state_of b kept ≡ fresh p → SinceFresh p b kept m
  next : (b : Board) (kept m w : List ℕ) (g : Call) (r : Result Stepped Refusal) (kept' m' w' : List ℕ) → SinceFresh p b kept m → longest_reply ≤ length w
      → Steps p b kept m w g r kept' m' w' → SinceFresh p (board_after b r) kept' m'
