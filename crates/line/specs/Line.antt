-- The code's plate and open frame as those of the meaning (01, "Plate", "Characters become frames"). Assumes nothing.
use Rattle.std.specs.Prelude.{◌≡◌, ℕ, ◌≤◌, false, List, Option, None, Some, length, take}
use Rattle.meaning.specs.Bytes.{pick, longest_request, put}
use Rattle.meaning.specs.State as meaning
use Rattle.meaning.specs.Characters as characters
use Rattle.meaning.specs.Characters.{Frame, no_frame_open, ticks_left}
use Rattle.line.specs.declared.plate.Plate.{Plate}
use Rattle.line.specs.declared.characters.OpenFrame.{OpenFrame}

-- the label bytes are lent beside the plate's numbers
abbrev pub plate_of : Plate → List ℕ → meaning.Plate
plate_of p label = record { total = p.total; bits = p.bits; address = p.address; ticks = p.ticks; pause = p.pause; label = label }

-- the first `len` of the lent places hold the kept bytes; the others carry no meaning
abbrev pub line_of : OpenFrame → List ℕ → meaning.Line
line_of f kept = record { begun = f.begun; kept = take f.len kept; sum = f.sum; longer = f.longer; parity = f.parity; last = f.last }

-- 02, Req 03, in the code's cases: None where no frame is open
abbrev pub remaining_of : Option ℕ → characters.Remaining
remaining_of None = no_frame_open
remaining_of (Some n) = ticks_left n

-- 01, "A closed frame": the kept bytes with what the numbers say of the frame
abbrev pub frame_of : OpenFrame → List ℕ → Frame
frame_of f bytes = record { bytes = bytes; sum = f.sum; longer = f.longer; parity = f.parity }

-- 01, "no frame open"
abbrev pub no_frame : OpenFrame
no_frame = record { begun = false; last = 0; len = 0; sum = 0; longer = false; parity = false }

-- 01, "at most 135 kept bytes": the frame's numbers and the lent places are within their limits
pub record Fits (f : OpenFrame) (kept : List ℕ) : Type 0 where
  pub few : f.len ≤ longest_request
  pub all : length kept ≡ longest_request

-- a frame is left with the line l: its numbers say l, and of the lent places those that l keeps are written, the others untouched
pub record Extends (l : meaning.Line) (kept : List ℕ) (r : OpenFrame) (kept' : List ℕ) : Type 0 where
  pub line : line_of r kept' ≡ l
  pub bytes : kept' ≡ put kept 0 l.kept
  pub few : r.len ≤ longest_request

-- the frame that the next character goes on with
pub record Starts (f r : OpenFrame) : Type 0 where
  pub line : (kept : List ℕ) → line_of r kept ≡ pick f.begun (line_of f kept) meaning.none
  pub few : f.len ≤ longest_request → r.len ≤ longest_request
