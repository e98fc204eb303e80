-- What a call leaves of the core of an image, for the plate that its head told, and the steps on the way (01, "Named refusals"). Assumes nothing.
use Rattle.std.specs.Prelude.{Result, Ok, Err, ℕ, ◌+◌, ◌-◌, ◌≤◌, ◌^◌, ◌≡◌, Bool, true, not, List, ◌++◌, eqb, leb, ltb, take, drop}
use Rattle.meaning.specs.Bytes.{pick, both, either, longest_reply, arg}
use Rattle.meaning.specs.State as meaning
use Rattle.meaning.specs.Fields.{memory_length}
use Rattle.meaning.specs.Characters.{over}
use Rattle.meaning.specs.Frames.{data_of}
use Rattle.meaning.specs.Run.{Call, poll, Held, untouched, called}
use Rattle.line.specs.declared.plate.Plate.{Plate}
use Rattle.quicksetter.specs.declared.refusals.Refusal.{Refusal}
use Rattle.quicksetter.specs.declared.refusals.Refusal.TheVariants.{R1, R2, R3}
use Rattle.board.specs.Work.{Workable, Serves, Closes}
use Rattle.image.specs.Image.{kept_at, core_length, number_at, count_at, is_ours, is_core, head_in, core_in, plate_of_head, label_in, state_in, frame_in, held_in, kept_in, core_of}
use Rattle.image.specs.Writes.{PutsState}
use Rattle.quicksetter.specs.Calls.{plate_held, call_number}

-- the meaning's call on the state that the core holds; what is no core is R1
unfoldable pub core_called : meaning.Plate → List ℕ → List ℕ → List ℕ → Call → Held
core_called p core m room g =
    pick (is_core core) (called p (held_in core) m room g) (untouched 1 (held_in core) m room)

unfoldable pub core_after : List ℕ → Held → List ℕ
core_after core h = pick (eqb h.refusal 0) (core_of h.state (kept_in core)) core

pub record CoreCalled (p : meaning.Plate) (core m w : List ℕ) (g : Call) (r : ℕ) (core' m' w' : List ℕ) : Type 0 where
  pub answer : r ≡ call_number (core_called p core m w g)
  pub state : held_in core' ≡ (core_called p core m w g).state
  pub bytes : core' ≡ core_after core (core_called p core m w g)
  pub memory : m' ≡ (core_called p core m w g).memory
  pub room : w' ≡ (core_called p core m w g).room

-- R1 does not apply to plate and core, whatever codes wait
unfoldable pub possible : meaning.Plate → List ℕ → Bool
possible p core =
    both (is_core core) (both (leb (count_at core) meaning.last_count) (both (leb (arg core 7) meaning.last_address) (both (meaning.plate_ok p) (ltb (number_at core 8) (2 ^ p.bits)))))

-- R1 to R3 of a call that can close a frame, 0 for none; memory and room by their lengths
unfoldable pub refusal_in : meaning.Plate → List ℕ → ℕ → ℕ → ℕ
refusal_in p core memory room =
    pick (not (is_core core)) 1
    (pick (either (not (meaning.plate_ok p)) (not (meaning.state_ok p (held_in core)))) 1
    (pick (not (eqb memory (memory_length p.total))) 2 (pick (ltb room longest_reply) 3 0)))

-- none of them applies
pub record Unrefused (p : meaning.Plate) (core : List ℕ) (memory room : ℕ) : Type 0 where
  pub bytes : is_core core ≡ true
  pub plate : meaning.plate_ok p ≡ true
  pub state : meaning.state_ok p (held_in core) ≡ true
  pub size : memory ≡ memory_length p.total
  pub wide : longest_reply ≤ room

-- a refusal by its number
abbrev pub refused_number : Refusal → ℕ
refused_number R1 = 1
refused_number R2 = 2
refused_number R3 = 3

-- .. of the tests' result, 0 for none
abbrev pub refusal_told : Result Plate Refusal → ℕ
refusal_told (Ok p) = 0
refusal_told (Err e) = refused_number e

-- R1 to R3 of an image, 0 for none
unfoldable pub image_refusal : List ℕ → ℕ → ℕ → ℕ
image_refusal img memory room = pick (is_ours img) (refusal_in (plate_held img) (core_in img) memory room) 1

-- the data of a kept request that ends before a place of the core
abbrev pub data_to : ℕ → List ℕ → List ℕ
data_to end core = data_of (take (end - kept_at) (drop kept_at core))

-- a request that the core's board may work
pub record Servable (p : Plate) (label : List ℕ) (c end : ℕ) (core m w : List ℕ) : Type 0 where
  pub bytes : is_core core ≡ true
  pub starts : kept_at + 3 ≤ end
  pub ends : end ≤ core_length
  pub works : Workable p label (state_in core) c (data_to end core) m w

-- the request c with the data d is worked and answered, and the core holds the state after it; but for the state's bytes it is as it was
pub record ServedIn (p : meaning.Plate) (c : ℕ) (d core m w : List ℕ) (r : ℕ) (core' m' w' : List ℕ) : Type 0 where
  pub serves : Serves p (state_in core) c d m w (state_in core') r m' w'
  pub state : PutsState (state_in core') core core'

-- the same of the open frame, which is closed
pub record ClosedIn (p : meaning.Plate) (core m w : List ℕ) (r : ℕ) (core' m' w' : List ℕ) : Type 0 where
  pub closes : Closes p (state_in core) (frame_in core) (kept_in core) m w (record { state = state_in core'; sent = r }) m' w'
  pub state : PutsState (state_in core') core core'

-- what a poll leaves of a core that is not refused; the places of the kept bytes stay
pub record Polls (p : meaning.Plate) (core m w : List ℕ) (tick r : ℕ) (core' m' w' : List ℕ) : Type 0 where
  pub called : CoreCalled p core m w (poll tick) r core' m' w'
  pub kept : kept_in core' ≡ kept_in core

-- the same of a core whose open frame is over
abbrev pub ShutIn : meaning.Plate → List ℕ → List ℕ → List ℕ → ℕ → List ℕ → List ℕ → List ℕ → Type 0
ShutIn p core m w r core' m' w' = (tick : ℕ) → over p (held_in core) tick ≡ true → Polls p core m w tick r core' m' w'

-- ---- of an image: its head is ours, and nothing is refused; afterwards its head is as it was
pub record ImageUnrefused (img : List ℕ) (memory room : ℕ) : Type 0 where
  pub ours : is_ours img ≡ true
  pub core : Unrefused (plate_held img) (core_in img) memory room

pub record ImageServable (c end : ℕ) (img m w : List ℕ) : Type 0 where
  pub ours : is_ours img ≡ true
  pub core : Servable (plate_of_head img) (label_in img) c end (core_in img) m w

pub record ImageServed (c end : ℕ) (img m w : List ℕ) (r : ℕ) (img' m' w' : List ℕ) : Type 0 where
  pub core : ServedIn (plate_held img) c (data_to end (core_in img)) (core_in img) m w r (core_in img') m' w'
  pub head : img' ≡ head_in img ++ core_in img'

pub record ImageAnswered (img m w : List ℕ) (r : ℕ) (img' m' w' : List ℕ) : Type 0 where
  pub core : ClosedIn (plate_held img) (core_in img) m w r (core_in img') m' w'
  pub head : img' ≡ head_in img ++ core_in img'

pub record ImageShuts (img m w : List ℕ) (r : ℕ) (img' m' w' : List ℕ) : Type 0 where
  pub core : ShutIn (plate_held img) (core_in img) m w r (core_in img') m' w'
  pub head : img' ≡ head_in img ++ core_in img'

pub record ImagePolls (img m w : List ℕ) (tick r : ℕ) (img' m' w' : List ℕ) : Type 0 where
  pub core : Polls (plate_held img) (core_in img) m w tick r (core_in img') m' w'
  pub head : img' ≡ head_in img ++ core_in img'
