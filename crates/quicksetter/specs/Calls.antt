-- What a call from C leaves of image, memory and room, and the number that comes back (01, "Named refusals"). Assumes nothing.
use Rattle.std.specs.Prelude.{ℕ, ◌+◌, ◌*◌, ◌/◌, ◌%◌, ◌≡◌, Bool, List, ◌++◌, eqb, length}
use Rattle.meaning.specs.Bytes.{pick, both, longest_request, zeros}
use Rattle.meaning.specs.State as meaning
use Rattle.meaning.specs.Characters.{no_frame_open, ticks_left}
use Rattle.meaning.specs.Run.{Call, Carried, nothing, carries, Held, untouched, called}
use Rattle.line.specs.declared.plate.Plate.{Plate}
use Rattle.line.specs.Line.{plate_of}
use Rattle.state.specs.State.{state_with}
use Rattle.image.specs.Image.{image_length, lasting_length, is_ours, is_core, head_in, core_in, plate_of_head, label_in, held_in, lasting_in, rested_in, kept_in, head_of, core_of}

-- the plate by its numbers, in the order of document 01
abbrev pub plate_from : ℕ → ℕ → ℕ → ℕ → ℕ → Plate
plate_from t b a k q = record { total = t; bits = b; address = a; ticks = k; pause = q }

-- what an image is: ours by length and layout, its core one too
unfoldable pub is_image : List ℕ → Bool
is_image img = both (is_ours img) (is_core (core_in img))

-- the plate and the state that it holds
abbrev pub plate_held : List ℕ → meaning.Plate
plate_held img = plate_of (plate_of_head img) (label_in img)

abbrev pub state_held : List ℕ → meaning.State
state_held img = held_in (core_in img)

-- its bytes that must last when the supply is off: codes, counter, address, offset
abbrev pub lasting_of : List ℕ → List ℕ
lasting_of img = lasting_in (core_in img)

-- the meaning's call on the plate and the state that the image holds; what is no image is R1
unfoldable pub called_by : List ℕ → List ℕ → List ℕ → Call → Held
called_by img m room g =
    pick (is_image img) (called (plate_held img) (state_held img) m room g) (untouched 1 (state_held img) m room)

-- 0 for silence, 1 to 134 the reply's length, 256 + n for Rn
unfoldable pub call_number : Held → ℕ
call_number h = pick (eqb h.refusal 0) h.count (256 + h.refusal)

-- the state after the call, its unused places and the head as they were; a refused call leaves the image as it was
unfoldable pub image_after : List ℕ → Held → List ℕ
image_after img h = pick (eqb h.refusal 0) (head_in img ++ core_of h.state (kept_in (core_in img))) img

pub record Called (img m w : List ℕ) (g : Call) (r : ℕ) (img' m' w' : List ℕ) : Type 0 where
  pub answer : r ≡ call_number (called_by img m w g)
  pub state : state_held img' ≡ (called_by img m w g).state
  pub image : img' ≡ image_after img (called_by img m w g)
  pub memory : m' ≡ (called_by img m w g).memory
  pub room : w' ≡ (called_by img m w g).room

-- 02, Req 03: how long the host may sleep, in ticks; no frame open has a number of its own, and a refused call, which has no ticks, another
unfoldable pub sleep_number : Carried → ℕ
sleep_number nothing = 0xFFFFFFFE
sleep_number (carries no_frame_open) = 0xFFFFFFFF
sleep_number (carries (ticks_left n)) = n

-- 02, Req 03: a character's and a poll's number holds both: the one above in its low 32 bits, how long the host may sleep in its high 32 bits
unfoldable pub answer_number : Held → ℕ
answer_number h = sleep_number h.sleep * 0x100000000 + call_number h

pub record CalledWithSleep (img m w : List ℕ) (g : Call) (r : ℕ) (img' m' w' : List ℕ) : Type 0 where
  pub number : r ≡ answer_number (called_by img m w g)
  pub called : Called img m w g (call_number (called_by img m w g)) img' m' w'

-- its halves, QS_REPLY and QS_SLEEP of host/quicksetter.h
unfoldable pub reply_in : ℕ → ℕ
reply_in r = r % 0x100000000

unfoldable pub sleep_in : ℕ → ℕ
sleep_in r = r / 0x100000000

-- a plate and a state as an image, over the 135 places for kept bytes
unfoldable pub image_of : meaning.Plate → meaning.State → List ℕ → List ℕ
image_of p s places = head_of p ++ core_of s places

-- R1 for an impossible plate or state, or an image of another length; else every byte of the image is written
unfoldable pub start_ok : meaning.Plate → meaning.State → List ℕ → Bool
start_ok p s img = both (meaning.plate_ok p) (both (eqb (length img) image_length) (meaning.state_ok p s))

pub record Makes (p : meaning.Plate) (s : meaning.State) (img : List ℕ) (r : ℕ) (img' : List ℕ) : Type 0 where
  pub answer : r ≡ pick (start_ok p s img) 0 257
  pub image : img' ≡ pick (start_ok p s img) (image_of p s (zeros longest_request)) img

-- 01, "Fresh state"
abbrev pub Freshens : meaning.Plate → List ℕ → ℕ → List ℕ → Type 0
Freshens p img r img' = Makes p (meaning.fresh p) img r img'

-- the state of a board that was off, from the bytes that last
abbrev pub rested : List ℕ → meaning.State
rested lasting = state_with (rested_in lasting) meaning.none

-- 01, "Power-on": a board that was off; R1 also for another number of lasting bytes
unfoldable pub restart_ok : meaning.Plate → List ℕ → List ℕ → Bool
restart_ok p lasting img = both (eqb (length lasting) lasting_length) (start_ok p (rested lasting) img)

pub record Restarts (p : meaning.Plate) (lasting img : List ℕ) (r : ℕ) (img' : List ℕ) : Type 0 where
  pub answer : r ≡ pick (restart_ok p lasting img) 0 257
  pub image : img' ≡ pick (restart_ok p lasting img) (image_of p (rested lasting) (zeros longest_request)) img
