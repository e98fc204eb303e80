-- The calls that send a request, and what sending asks and leaves (01, "Characters become frames"). Assumes nothing.
use Rattle.std.specs.Prelude.{ℕ, zero, suc, ◌+◌, ◌-◌, ◌%◌, ◌^◌, ◌<◌, ◌≤◌, ◌≡◌, false, List, [], ◌∷◌, length, take}
use Rattle.meaning.specs.Bytes.{longest_request, longest_reply, arg, put}
use Rattle.meaning.specs.State.{Plate}
use Rattle.meaning.specs.Characters.{full_pause}
use Rattle.meaning.specs.Run.{Call, character, run_from}
use Rattle.board.specs.declared.limits.Board.{Board}
use Rattle.board.specs.Board.{state_of}
use Rattle.board.specs.Promises.{Within}
use Rattle.exchange.specs.declared.sending.Sent.{Sent}

-- 01, "a 32-bit number that wraps around": the stamp of character i, the first at the tick, each further one a spacing after the last
unfoldable pub stamp_of : ℕ → ℕ → ℕ → ℕ
stamp_of tick spacing zero = tick
stamp_of tick spacing (suc i) = (stamp_of tick spacing i + spacing) % 2 ^ 32

-- the calls that send the first bytes of q, without a parity fault, newest first
unfoldable pub sending : ℕ → ℕ → List ℕ → ℕ → List Call
sending tick spacing q zero = []
sending tick spacing q (suc i) = character (stamp_of tick spacing i) (arg q i) false ∷ sending tick spacing q i

-- the line is clear for the request q: none of R1 to R3, no frame open, characters closer than the pause, no more bytes than are kept
pub record Clear (p : Plate) (b : Board) (spacing : ℕ) (q kept m w : List ℕ) : Type 0 where
  pub within : Within p b kept m
  pub wide : longest_reply ≤ length w
  pub idle : (state_of b kept).line.begun ≡ false
  pub close : spacing < full_pause p
  pub short : length q ≤ longest_request

-- the first n bytes of q are sent: the board is that of the calls so far, their bytes are kept, and nothing came back
pub record Taken (p : Plate) (b : Board) (tick spacing : ℕ) (q kept m w : List ℕ) (n : ℕ) (b' : Board) (kept' m' w' : List ℕ) : Type 0 where
  pub within : Within p b' kept' m'
  pub state : state_of b' kept' ≡ (run_from p (state_of b kept) m (sending tick spacing q n)).state
  pub bytes : kept' ≡ put kept 0 (take n q)
  pub memory : m' ≡ m
  pub room : w' ≡ w

-- .. all of them, and when the last one ended
pub record SendsRequest (p : Plate) (b : Board) (tick spacing : ℕ) (q kept m w : List ℕ) (r : Sent) (kept' m' w' : List ℕ) : Type 0 where
  pub taken : Taken p b tick spacing q kept m w (length q) r.board kept' m' w'
  pub last : r.last ≡ stamp_of tick spacing (length q - 1)
