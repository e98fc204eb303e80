-- Characters, gaps and polls: how much of its pause remains, when a frame is over, what is kept of it (01, "Characters become frames"). Assumes nothing.
use Rattle.std.specs.Prelude.{ℕ, ◌+◌, ◌-◌, ◌*◌, ◌%◌, ◌^◌, Bool, true, false, List, [], ◌∷◌, ◌++◌, length, take, eqb, leb, ltb}
use Rattle.std.specs.Int.Bits.{bit_xor}
use Rattle.meaning.specs.Bytes.{pick, either, longest_request, xor_all}
use Rattle.meaning.specs.State.{Plate, State, Line, none, with_line}

-- 01, "a gap is taken modulo 2^32": the ticks from one stamp to another
unfoldable pub gap : ℕ → ℕ → ℕ
gap from to = (to + 2 ^ 32 - from) % 2 ^ 32

-- 01, "pause × ticks-per-bit": the pause that closes a frame, in ticks
unfoldable pub full_pause : Plate → ℕ
full_pause p = p.pause * p.ticks

-- 02, Req 03, "how many ticks remain: 0 when over, a named 'no frame open' when there is none"
pub data Remaining : Type 0 where
  no_frame_open : Remaining
  ticks_left : ℕ → Remaining

-- 02, Req 03: of the open frame at a tick, the full pause less the gap since its last character, and never below 0
unfoldable pub remaining : Plate → State → ℕ → Remaining
remaining p s now = pick s.line.begun (ticks_left (full_pause p - gap s.line.last now)) no_frame_open

abbrev pub ran_out : Remaining → Bool  -- 02, Req 03, "0 when over"
ran_out no_frame_open = false
ran_out (ticks_left n) = eqb n 0

-- 01, "An open frame is closed when a character or a poll comes at least pause × ticks-per-bit after its last character": no tick remains, so that equality closes
unfoldable pub over : Plate → State → ℕ → Bool
over p s now = ran_out (remaining p s now)

-- 01, "Up to 135 bytes are kept": one more character, of an open frame
unfoldable pub more : Line → ℕ → ℕ → Bool → Line
more l now v bad = record {
  begun = true;
  kept = pick (ltb (length l.kept) longest_request) (l.kept ++ (v ∷ [])) l.kept;
  sum = bit_xor l.sum v;
  longer = either l.longer (leb longest_request (length l.kept));
  parity = either l.parity bad;
  last = now;
}

-- 01, "Characters become frames": a character is taken in; with no frame open it starts from an empty one, whatever the unused places hold
unfoldable pub taken : State → ℕ → ℕ → Bool → State
taken s now v bad = with_line s (more (pick s.line.begun s.line none) now v bad)

-- 01, "Characters become frames": a closed frame: the kept bytes; the XOR of all that came; whether more came; whether a character had a parity fault
pub record Frame : Type 0 where
  pub bytes : List ℕ
  pub sum : ℕ
  pub longer : Bool
  pub parity : Bool

unfoldable pub closed : Line → Frame  -- 01, "An open frame is closed"
closed l = record { bytes = l.kept; sum = l.sum; longer = l.longer; parity = l.parity }

-- 01, "Characters become frames": the frame of characters that came without a parity fault
unfoldable pub whole : List ℕ → Frame
whole b = record { bytes = take longest_request b; sum = xor_all b; longer = ltb longest_request (length b); parity = false }
