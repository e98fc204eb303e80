-- The code's board as the meaning's state, and what a call leaves (01, "Named refusals"). Assumes nothing.
use Rattle.std.specs.Prelude.{ℕ, ◌≤◌, ◌≡◌, Bool, true, false, List, Option, Some, None, Result, Ok, Err, unwrap_or, eqb, leb, length, drop}
use Rattle.meaning.specs.Bytes.{pick, both, longest_request, put, arg}
use Rattle.meaning.specs.State.{Plate, State, plate_ok, state_ok, with_queue}
use Rattle.meaning.specs.Run as run
use Rattle.meaning.specs.Run.{Call, Held, untouched, refused_by, called, closes, lends}
use Rattle.meaning.specs.Characters.{no_frame_open, ticks_left}
use Rattle.line.specs.Line.{line_of}
use Rattle.state.specs.State.{state_with}
use Rattle.board.specs.declared.limits.Board.{Board}
use Rattle.board.specs.declared.calls.Refusal.{Refusal}
use Rattle.board.specs.declared.calls.Refusal.TheVariants.{R1, R2, R3}
use Rattle.board.specs.declared.calls.Stepped.{Stepped}
use Rattle.state.specs.declared.faults.Oldest.{Oldest}

abbrev pub state_of : Board → List ℕ → State
state_of b kept = state_with b.state (line_of b.frame kept)

-- 01, "at most 135 kept bytes"
abbrev pub KeepsFew : Board → Type 0
KeepsFew b = b.frame.len ≤ longest_request

-- .., of the frame's number and of the lent places
unfoldable pub fits_in : Board → List ℕ → Bool
fits_in b kept = both (leb b.frame.len longest_request) (eqb (length kept) longest_request)

-- R1 does not apply, where there are 135 places: the plate, the numbers and the number of kept bytes are possible
unfoldable pub within : Plate → Board → List ℕ → Bool
within p b kept = both (leb b.frame.len longest_request) (both (plate_ok p) (state_ok p (state_of b kept)))

-- 01, R1 to R3, 0 where none applies: the meaning's, and R1 also for what the meaning's state cannot hold
unfoldable pub refusal_on : Plate → Board → List ℕ → List ℕ → ℕ → Call → ℕ
refusal_on p b kept m room g = pick (fits_in b kept) (refused_by p (state_of b kept) m room g) 1

unfoldable pub called_on : Plate → Board → List ℕ → List ℕ → List ℕ → Call → Held
called_on p b kept m room g =
    pick (fits_in b kept) (called p (state_of b kept) m room g) (untouched 1 (state_of b kept) m room)

-- 01, "Named refusals", by their numbers; 0 where nothing was refused
abbrev pub refusal_number : {A : Type 0} → Result A Refusal → ℕ
refusal_number (Ok x) = 0
refusal_number (Err R1) = 1
refusal_number (Err R2) = 2
refusal_number (Err R3) = 3

-- the refusal of that number; where it is 0, what else came of the call
unfoldable pub refused_as : {A : Type 0} → ℕ → A → Result A Refusal
refused_as n x = pick (eqb n 0) (Ok x) (pick (eqb n 1) (Err R1) (pick (eqb n 2) (Err R2) (Err R3)))

-- R1 alone: within the limits what else came of the call
abbrev pub taken_if : {A : Type 0} → Bool → A → Result A Refusal
taken_if fine x = pick fine (Ok x) (Err R1)

-- 01, "Named refusals", in the code's cases; the number of reply bytes, 0 being silence, where the call closes a frame, as `over` says
unfoldable pub outcome_of : Held → Bool → Result (Option ℕ) Refusal
outcome_of h over = refused_as h.refusal (pick over (Some h.count) None)

-- how many reply bytes stand at the room's front: 0 is silence, or that no frame closed
abbrev pub reply_length : Stepped → ℕ
reply_length r = unwrap_or r.reply 0

-- what an answer tells: a refusal, or the reply
abbrev pub told_of : Result Stepped Refusal → Result (Option ℕ) Refusal
told_of (Ok r) = Ok r.reply
told_of (Err e) = Err e

-- 02, Req 03, in the code's cases: a number of ticks; None where no frame is open, and where the call lends nothing, so that nothing is carried
abbrev pub carried_by : Bool → Option ℕ → run.Carried
carried_by lent (Some n) = run.carries (ticks_left n)
carried_by true None = run.carries no_frame_open
carried_by false None = run.nothing

-- 02, Req 03, what an answer carries: a refused one nothing
abbrev pub carried_of : Call → Result Stepped Refusal → run.Carried
carried_of g (Ok r) = carried_by (lends g) r.remaining
carried_of g (Err e) = run.nothing

-- the board after a call: a refused one leaves it as it was
abbrev pub board_after : Board → Result Stepped Refusal → Board
board_after b (Ok r) = r.board
board_after b (Err e) = b

-- the answer of a call that lends nothing: it closes no frame and carries nothing
abbrev pub unheard : Result Board Refusal → Result Stepped Refusal
unheard (Ok b) = Ok (record { board = b; reply = None; remaining = None })
unheard (Err e) = Err e

-- what a call answers, and leaves of board, kept bytes, memory and room. Places past the kept bytes are untouched
pub record Steps (p : Plate) (b : Board) (kept m w : List ℕ) (g : Call) (r : Result Stepped Refusal) (kept' m' w' : List ℕ) : Type 0 where
  pub outcome : told_of r ≡ outcome_of (called_on p b kept m w g) (closes p (state_of b kept) g)
  pub sleep : carried_of g r ≡ (called_on p b kept m w g).sleep
  pub state : state_of (board_after b r) kept' ≡ (called_on p b kept m w g).state
  pub bytes : kept' ≡ put kept 0 (called_on p b kept m w g).state.line.kept
  pub memory : m' ≡ (called_on p b kept m w g).memory
  pub room : w' ≡ (called_on p b kept m w g).room
  pub few : (called_on p b kept m w g).refusal ≡ 0 → (board_after b r).frame.len ≤ longest_request

-- 01, row 50h, "oldest queued code, or 00h; removes it"
pub record ReadsOldest (b : Board) (r : Oldest Board) : Type 0 where
  pub code : (kept : List ℕ) → r.code ≡ arg (state_of b kept).queue 0
  pub board : (kept : List ℕ) → state_of r.rest kept ≡ with_queue (state_of b kept) (drop 1 (state_of b kept).queue)
