-- The image: where its 212 bytes stand, the plate and the state that they hold, and the bytes of both (01, "calls on numbers and byte slices"). Assumes nothing.
use Rattle.std.specs.Prelude.{ℕ, ◌+◌, Bool, true, false, List, [], ◌∷◌, ◌++◌, eqb, leb, length, take, drop}
use Rattle.meaning.specs.Bytes.{both, longest_request, arg, part, put, little}
use Rattle.meaning.specs.State as meaning
use Rattle.wire.specs.Numbers.{low3, low4}
use Rattle.state.specs.declared.state.State.{State}
use Rattle.state.specs.State.{state_with}
use Rattle.line.specs.declared.plate.Plate.{Plate}
use Rattle.line.specs.declared.characters.OpenFrame.{OpenFrame}
use Rattle.line.specs.Line.{line_of}
use Rattle.state.specs.Queue.{no_faults}

-- the head: a layout number, the plate's five numbers and its label bytes
abbrev pub label_at : ℕ
label_at = 6

abbrev pub head_length : ℕ
head_length = label_at + meaning.label_length

-- the core: 21 bytes of state, nine of the open frame's numbers, and the places of its kept bytes
abbrev pub frame_at : ℕ
frame_at = 21

abbrev pub parity_at : ℕ
parity_at = 23

abbrev pub kept_at : ℕ
kept_at = 30

abbrev pub core_length : ℕ
core_length = kept_at + longest_request

abbrev pub image_length : ℕ
image_length = head_length + core_length

abbrev pub head_in : List ℕ → List ℕ
head_in img = take head_length img

abbrev pub core_in : List ℕ → List ℕ
core_in img = drop head_length img

-- the number of this layout; another one has other places
abbrev pub layout_number : ℕ
layout_number = 2

-- 0 the layout number; 1 total blocks; 2 position bits; 3 the plate's address; 4 ticks per bit; 5 pause; 6 to 46 the label bytes
unfoldable pub plate_of_head : List ℕ → Plate
plate_of_head img = record { total = arg img 1; bits = arg img 2; address = arg img 3; ticks = arg img 4; pause = arg img 5 }

abbrev pub label_in : List ℕ → List ℕ
label_in img = part img label_at meaning.label_length

unfoldable pub head_of : meaning.Plate → List ℕ
head_of p = layout_number ∷ p.total ∷ p.bits ∷ p.address ∷ p.ticks ∷ p.pause ∷ p.label

-- R1: another length, another layout
unfoldable pub is_ours : List ℕ → Bool
is_ours img = both (eqb (length img) image_length) (eqb (arg img 0) layout_number)

-- ---- the core, its places counted from its own front

-- numbers stand low byte first
abbrev pub number_at : List ℕ → ℕ → ℕ
number_at core i = little (part core i 4)

-- a flag is 1 or 0
abbrev pub flag_at : List ℕ → ℕ → Bool
flag_at core i = eqb (arg core i) 1

unfoldable pub flag_byte : Bool → ℕ
flag_byte true = 1
flag_byte false = 0

-- the counter has three bytes
abbrev pub count_at : List ℕ → ℕ
count_at core = little (part core 4 3)

-- 0 to 3 the codes; 4 to 6 counter; 7 address; 8 offset; 12 measured; 16 to 19 the waiting codes, oldest first, 00h for an empty place; 20 locked
unfoldable pub state_in : List ℕ → State
state_in core =
    record {
      codes = arg core 0 ∷ arg core 1 ∷ arg core 2 ∷ arg core 3 ∷ [];
      counter = count_at core;
      address = arg core 7;
      offset = number_at core 8;
      measured = number_at core 12;
      faults = record { first = arg core 16; second = arg core 17; third = arg core 18; fourth = arg core 19; locked = flag_at core 20 };
    }

-- 0 to 11 must last when the supply is off: codes, counter, address, offset. The state of a board that was off, but for its measured position, which the host gives anew
abbrev pub lasting_length : ℕ
lasting_length = 12

abbrev pub lasting_in : List ℕ → List ℕ
lasting_in core = take lasting_length core

unfoldable pub rested_in : List ℕ → State
rested_in l = record { codes = arg l 0 ∷ arg l 1 ∷ arg l 2 ∷ arg l 3 ∷ []; counter = count_at l; address = arg l 7; offset = number_at l 8; measured = 0; faults = no_faults }

-- 21 whether a frame is open; 22 longer than 135; 23 a parity fault; 24 the last stamp; 28 the XOR of all its bytes; 29 how many are kept
unfoldable pub frame_in : List ℕ → OpenFrame
frame_in core =
    record {
      begun = flag_at core 21;
      last = number_at core 24;
      len = arg core 29;
      sum = arg core 28;
      longer = flag_at core 22;
      parity = flag_at core 23;
    }

-- 30 to 164 the kept bytes
abbrev pub kept_in : List ℕ → List ℕ
kept_in core = take longest_request (drop kept_at core)

-- the meaning's state that a core holds
abbrev pub held_in : List ℕ → meaning.State
held_in core = state_with (state_in core) (line_of (frame_in core) (kept_in core))

-- R1: a core of another length, a flag that is neither 0 nor 1, or more than 135 kept bytes
unfoldable pub flags_ok : List ℕ → Bool
flags_ok core = both (leb (arg core 20) 1) (both (leb (arg core 21) 1) (both (leb (arg core 22) 1) (leb (arg core 23) 1)))

unfoldable pub is_core : List ℕ → Bool
is_core core = both (eqb (length core) core_length) (both (flags_ok core) (leb (arg core 29) longest_request))

-- the 21 bytes of a state, but for its frame
unfoldable pub state_bytes : meaning.State → List ℕ
state_bytes s =
    arg s.codes 0 ∷ arg s.codes 1 ∷ arg s.codes 2 ∷ arg s.codes 3
    ∷ low3 s.counter (s.address ∷ low4 s.offset (low4 s.measured
    (arg s.queue 0 ∷ arg s.queue 1 ∷ arg s.queue 2 ∷ arg s.queue 3 ∷ flag_byte s.locked ∷ [])))

-- the nine bytes of its frame's numbers
unfoldable pub line_bytes : meaning.Line → List ℕ
line_bytes l = flag_byte l.begun ∷ flag_byte l.longer ∷ flag_byte l.parity ∷ low4 l.last (l.sum ∷ length l.kept ∷ [])

-- a state as a core over the 135 places for kept bytes: those past the kept ones stay as they were
unfoldable pub core_of : meaning.State → List ℕ → List ℕ
core_of s places = state_bytes s ++ (line_bytes s.line ++ put places 0 s.line.kept)
