-- What the calls from C promise: each does the meaning's step on the state that the image holds, and a refused one changes nothing. Assumes nothing.
use Rattle.std.specs.Prelude.{ℕ, ◌+◌, ◌-◌, ◌≤◌, ◌<◌, ◌≡◌, true, false, not, List, [], ◌∷◌, T, eqb, length, get_or, take, drop}
use Rattle.meaning.specs.Bytes.{either, longest_reply, zeros, arg}
use Rattle.meaning.specs.State.{Plate, own_byte}
use Rattle.meaning.specs.Fields.{memory_length}
use Rattle.meaning.specs.Characters.{closed, whole}
use Rattle.meaning.specs.Commands.{command_of, free_byte}
use Rattle.meaning.specs.Frames.{data_of, message, resting}
use Rattle.meaning.specs.Run.{Call, poll, measured, power_on, refused_by, run, closes, Heard, heard, traffic}
use Rattle.meaning.specs.Bench.{allowed, request, warning, bare}
use Rattle.meaning.specs.Ledger.{fields_of, granted, back, byte_of, address_of, Agrees, AnswersTo, Honest, DeletedByName, Wanted, room_reply}
use Rattle.meaning.specs.Demands.{waits, meant, Served}
use Rattle.quicksetter.specs.Calls.{is_image, plate_held, state_held, lasting_of, called_by, Called, Freshens, Restarts}

-- 01, "Characters become frames", "Faults": where nothing is refused, any of the five calls does the meaning's step on the state that the image holds: the number is the
-- reply's length, the image then holds the step's state, the memory is the step's, the reply fills the front of the room and the rest is what it was
abbrev pub QsSteps : Type 0
QsSteps = (img m w : List ℕ) (g : Call) (r : ℕ) (img' m' w' : List ℕ) → Called img m w g r img' m' w'
    → is_image img ≡ true → T (eqb (refused_by (plate_held img) (state_held img) m (length w) g) 0)
    → Served (plate_held img) (state_held img) m w g (record { refusal = 0; count = r; sleep = (called_by img m w g).sleep; state = state_held img'; memory = m'; room = w' })

-- 256 + n comes back; image, memory and room are what they were
pub record Untouched (n : ℕ) (img m w : List ℕ) (r : ℕ) (img' m' w' : List ℕ) : Type 0 where
  pub number : r ≡ 256 + n
  pub image : img' ≡ img
  pub memory : m' ≡ m
  pub room : w' ≡ w

-- 01, "Named refusals": a refused call touches nothing and tells its number
abbrev pub QsRefusedUntouched : Type 0
QsRefusedUntouched = (img m w : List ℕ) (g : Call) (r : ℕ) (img' m' w' : List ℕ) → Called img m w g r img' m' w'
    → is_image img ≡ true → T (not (eqb (refused_by (plate_held img) (state_held img) m (length w) g) 0)) → Untouched (refused_by (plate_held img) (state_held img) m (length w) g) img m w r img' m' w'

-- 01, R1: what is no image, an impossible state
abbrev pub QsNoImageUntouched : Type 0
QsNoImageUntouched = (img m w : List ℕ) (g : Call) (r : ℕ) (img' m' w' : List ℕ) → Called img m w g r img' m' w'
    → is_image img ≡ false → Untouched 1 img m w r img' m' w'

-- Demand 1: what a host holds that starts with a fresh image and a memory of the right size, and then only calls, with room enough, or restarts from what lasted
pub data Reached (p : Plate) : List ℕ → List ℕ → Type 0 where
  start : (old img m : List ℕ) → Freshens p old 0 img → length m ≡ memory_length p.total → Reached p img m
  next : (img m w : List ℕ) (g : Call) (r : ℕ) (img' m' w' : List ℕ) → Reached p img m → longest_reply ≤ length w → Called img m w g r img' m' w' → Reached p img' m'
  off : (img m old img' : List ℕ) → Reached p img m → Restarts p (lasting_of img) old 0 img' → Reached p img' m

-- Demand 1: no such call is ever refused: what comes back is the length of a reply
abbrev pub QsNeverRefused : Type 0
QsNeverRefused = (p : Plate) (img m w : List ℕ) (g : Call) (r : ℕ) (img' m' w' : List ℕ) → Reached p img m → longest_reply ≤ length w → Called img m w g r img' m' w' → r ≤ longest_reply

-- Demand 3: a host that starts with a fresh image and blank memory, and then only calls, with room enough: its calls, newest first; the traffic, each frame that a
-- call closed with the reply that the call left; image, memory and last reply. Where it was off it restarts from memory and lasting bytes and gives the measured
-- position: that is a power-on and a measured position
pub data Ran (p : Plate) : List Call → List Heard → List ℕ → List ℕ → List ℕ → Type 0 where
  began : (old img : List ℕ) → Freshens p old 0 img → Ran p [] [] img (zeros (memory_length p.total)) []
  called : (gs : List Call) (t : List Heard) (img m x w : List ℕ) (g : Call) (r : ℕ) (img' m' w' : List ℕ) → Ran p gs t img m x → longest_reply ≤ length w → Called img m w g r img' m' w'
      → Ran p (g ∷ gs) (heard p (state_held img) g (take r w') t) img' m' (take r w')
  restarted : (gs : List Call) (t : List Heard) (img m x old off : List ℕ) (n r : ℕ) (img' : List ℕ) → Ran p gs t img m x → Restarts p (lasting_of img) old 0 off
      → ((y w : List ℕ) → Called off y w (measured n) r img' y w) → Ran p (measured n ∷ power_on ∷ gs) t img' m []

-- what it holds and hears is the meaning's run
pub record AsRun (p : Plate) (gs : List Call) (t : List Heard) (img m x : List ℕ) : Type 0 where
  pub state : state_held img ≡ (run p gs).state
  pub memory : m ≡ (run p gs).memory
  pub reply : x ≡ (run p gs).reply
  pub wire : t ≡ traffic p gs

abbrev pub QsRuns : Type 0
QsRuns = (p : Plate) (gs : List Call) (t : List Heard) (img m x : List ℕ) → Ran p gs t img m x → AsRun p gs t img m x

-- Demand 3: so memory, free blocks, field bytes, codes and address are what the traffic says
abbrev pub QsMemoryByTraffic : Type 0
QsMemoryByTraffic = (p : Plate) (gs : List Call) (t : List Heard) (img m x : List ℕ) → Ran p gs t img m x → Agrees p (state_held img) m t

-- Demand 3, "the traffic alone": two hosts with equal traffic hold equal memory
abbrev pub QsTrafficAlone : Type 0
QsTrafficAlone = (p : Plate) (gs hs : List Call) (t : List Heard) (img m x img' m' x' : List ℕ) → Ran p gs t img m x → Ran p hs t img' m' x' → m ≡ m'

-- Demand 3: accepted stores and shapes carried the code in force
abbrev pub QsCarriedTheCode : Type 0
QsCarriedTheCode = (p : Plate) (gs : List Call) (t : List Heard) (img m x : List ℕ) → Ran p gs t img m x → Honest t

-- 02, Req 02: each accepted deletion named the stored status, all bits but bit 7
abbrev pub QsDeletionsNamed : Type 0
QsDeletionsNamed = (p : Plate) (gs : List Call) (t : List Heard) (img m x : List ℕ) → Ran p gs t img m x → DeletedByName t

-- 02, Req 01: its board answers to exactly one address of 0 to 31, the one that the traffic tells, and to FFh
abbrev pub QsAnswersToOne : Type 0
QsAnswersToOne = (p : Plate) (gs : List Call) (t : List Heard) (img m x : List ℕ) → Ran p gs t img m x → AnswersTo p (state_held img) m (address_of p t)

-- such a host's next call, a character or a poll, closes the open frame and leaves a reply
pub data ClosesNext (p : Plate) (t : List Heard) (img m : List ℕ) : List ℕ → Type 0 where
  closes_next : (gs : List Call) (x w : List ℕ) (g : Call) (r : ℕ) (img' m' w' : List ℕ) → Ran p gs t img m x → longest_reply ≤ length w → Called img m w g r img' m' w'
      → T (closes p (state_held img) g) → ClosesNext p t img m (take r w')

-- Demand 3: of a 4Dh that passes the earlier checks the reply is 10h exactly if it asks more than is free, else the acceptance
abbrev pub QsRefusedForRoom : Type 0
QsRefusedForRoom = (p : Plate) (t : List Heard) (img m y : List ℕ) → ClosesNext p t img m y → Wanted p (resting (state_held img)) t (closed (state_held img).line)
    → y ≡ room_reply p (resting (state_held img)) t (arg (state_held img).line.kept 2) (arg (state_held img).line.kept 3)

-- the open frame is the request with address a, command c and data d, one that the bench writes, and for this board
pub record HoldsRequest (p : Plate) (img : List ℕ) (a c : ℕ) (d : List ℕ) : Type 0 where
  pub frame : closed (state_held img).line ≡ whole (request a c d)
  pub ours : T (either (eqb a (own_byte (state_held img))) (eqb a 0xFF))
  pub may : T (allowed (command_of c) d)

-- Demand 2: the reply to it is the one that its row means
abbrev pub QsRepliesAsMeant : Type 0
QsRepliesAsMeant = (p : Plate) (t : List Heard) (img m y : List ℕ) (a c : ℕ) (d : List ℕ) → ClosesNext p t img m y → HoldsRequest p img a c d → y ≡ (meant p (resting (state_held img)) m c d).reply

-- Demand 3: 4Eh tells the traffic's free blocks, total less granted plus given back, and its number of fields
abbrev pub QsFreeByTraffic : Type 0
QsFreeByTraffic = (p : Plate) (t : List Heard) (img m y : List ℕ) (a : ℕ) → ClosesNext p t img m y → HoldsRequest p img a 0x4E []
    → y ≡ message (resting (state_held img)) 0x4E (free_byte (p.total + back t - granted t) ∷ fields_of t ∷ [])

-- Demand 3, "each byte": an accepted 4Ah brings, behind field, offset and count, the bytes that the traffic tells
abbrev pub QsReadsByTraffic : Type 0
QsReadsByTraffic = (p : Plate) (t : List Heard) (img m y : List ℕ) (a : ℕ) (d : List ℕ) → ClosesNext p t img m y → HoldsRequest p img a 0x4A d → bare y ≡ 0x4A
    → (i : ℕ) → i < arg d 2 → get_or (drop 3 (data_of y)) i 0 ≡ byte_of t (arg d 0) (arg d 1 + i)

-- 01, "Bit 7 of every reply's command byte": where a call that is not refused leaves a reply, bit 7 is set exactly if codes wait in the image after it
abbrev pub QsWarnsExactly : Type 0
QsWarnsExactly = (img m w : List ℕ) (g : Call) (r : ℕ) (img' m' w' : List ℕ) → Called img m w g r img' m' w'
    → is_image img ≡ true → T (eqb (refused_by (plate_held img) (state_held img) m (length w) g) 0) → 0 < r → warning (take r w') ≡ waits (state_held img').queue

-- no reply; image, memory and room are what they were
pub record Nothing (img m w : List ℕ) (r : ℕ) (img' m' w' : List ℕ) : Type 0 where
  pub number : r ≡ 0
  pub image : img' ≡ img
  pub memory : m' ≡ m
  pub room : w' ≡ w

-- 01, "A poll with no frame open does nothing": of an image of bytes
abbrev pub QsPollWithoutFrame : Type 0
QsPollWithoutFrame = (img m w : List ℕ) (now : ℕ) (r : ℕ) (img' m' w' : List ℕ) → Called img m w (poll now) r img' m' w'
    → is_image img ≡ true → ((i : ℕ) → arg img i < 256) → T (eqb (refused_by (plate_held img) (state_held img) m (length w) (poll now)) 0) → (state_held img).line.begun ≡ false
    → Nothing img m w r img' m' w'
