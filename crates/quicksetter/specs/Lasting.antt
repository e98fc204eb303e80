-- What must last when the supply is off: which replies come with a change of it, the image of a board that was off, a host with a flash (01, "Power-on"). Assumes nothing.
use Rattle.std.specs.Prelude.{ℕ, ◌%◌, ◌<◌, ◌≤◌, ◌≡◌, Bool, true, false, List, [], ◌∷◌, length, take}
use Rattle.meaning.specs.Bytes.{pick, both, longest_reply, zeros, among, arg}
use Rattle.meaning.specs.State.{Plate, between, powered_on, with_measured}
use Rattle.meaning.specs.Fields.{memory_length}
use Rattle.meaning.specs.Run.{Call, measured, power_on, Heard, heard}
use Rattle.image.specs.Image.{image_length}
use Rattle.quicksetter.specs.Calls.{plate_held, state_held, lasting_of, Called, Freshens, Restarts}
use Rattle.quicksetter.specs.Promises.{Reached, Ran}

-- 01, "The commands": those that store: 43h the offset, 47h and 49h the counter, 4Bh and 4Dh memory, 4Fh a code; 02, Req 01: 55h the address; by the command byte of the reply
unfoldable pub may_change : ℕ → Bool
may_change c = among (c % 128) (0x43 ∷ 0x47 ∷ 0x49 ∷ 0x4B ∷ 0x4D ∷ 0x4F ∷ 0x55 ∷ [])

-- a call's number tells a reply, and that is one of those
unfoldable pub stores_by : ℕ → List ℕ → Bool
stores_by r room = both (between 1 longest_reply r) (may_change (arg room 1))

-- memory and the lasting bytes are what they were
pub record Lasts (img m img' m' : List ℕ) : Type 0 where
  pub lasting : lasting_of img' ≡ lasting_of img
  pub memory : m' ≡ m

-- a call that brings no reply, is refused, or brings an error reply or the reply of a command that stores nothing: of an image of bytes
abbrev pub QsLasts : Type 0
QsLasts = (img m w : List ℕ) (g : Call) (r : ℕ) (img' m' w' : List ℕ) → Called img m w g r img' m' w' → ((i : ℕ) → arg img i < 256) → stores_by r w' ≡ false
    → Lasts img m img' m'

-- an image made from a plate and lasting bytes holds that plate, and the state after power-on but for the measured position
pub record PoweredOn (img img' : List ℕ) : Type 0 where
  pub plate : plate_held img' ≡ plate_held img
  pub state : state_held img' ≡ with_measured (powered_on (state_held img)) 0

abbrev pub QsRestartIsPowerOn : Type 0
QsRestartIsPowerOn = (img old img' : List ℕ) → Restarts (plate_held img) (lasting_of img) old 0 img' → PoweredOn img img'

-- what a host kept of a board is never refused
abbrev pub QsRestarts : Type 0
QsRestarts = (p : Plate) (img m old : List ℕ) (r : ℕ) (img' : List ℕ) → Reached p img m → length old ≡ image_length → Restarts p (lasting_of img) old r img' → r ≡ 0

-- a host that keeps memory and lasting bytes in a flash: after a call whose reply may have changed them it writes them, and only then sends the reply; when it was off
-- it restarts from the flash and gives the measured position. A supply that goes before the flash is written leaves the flash, and so the host, as before that call.
-- Its calls, newest first; the traffic; image and memory; lasting bytes and memory in the flash. Images are of bytes
pub data Flashed (p : Plate) : List Call → List Heard → List ℕ → List ℕ → List ℕ → List ℕ → Type 0 where
  new : (old img : List ℕ) → Freshens p old 0 img → Flashed p [] [] img (zeros (memory_length p.total)) (lasting_of img) (zeros (memory_length p.total))
  works : (gs : List Call) (t : List Heard) (img m lasting memory w : List ℕ) (g : Call) (r : ℕ) (img' m' w' : List ℕ) → Flashed p gs t img m lasting memory
      → ((i : ℕ) → arg img i < 256) → longest_reply ≤ length w → Called img m w g r img' m' w'
      → Flashed p (g ∷ gs) (heard p (state_held img) g (take r w') t) img' m' (pick (stores_by r w') (lasting_of img') lasting) (pick (stores_by r w') m' memory)
  supplied : (gs : List Call) (t : List Heard) (img m lasting memory old off : List ℕ) (n r : ℕ) (img' : List ℕ) → Flashed p gs t img m lasting memory
      → ((i : ℕ) → arg img i < 256) → Restarts p lasting old 0 off → ((y w : List ℕ) → Called off y w (measured n) r img' y w)
      → Flashed p (measured n ∷ power_on ∷ gs) t img' memory lasting memory

-- at any moment the flash has what a restart needs
pub record Flash (img m kept cells : List ℕ) : Type 0 where
  pub lasting : kept ≡ lasting_of img
  pub memory : cells ≡ m

abbrev pub QsFlash : Type 0
QsFlash = (p : Plate) (gs : List Call) (t : List Heard) (img m lasting memory : List ℕ) → Flashed p gs t img m lasting memory → Flash img m lasting memory

-- and so demand 3 holds of such a host: it runs as one of `Ran`
abbrev pub QsFlashRuns : Type 0
QsFlashRuns = (p : Plate) (gs : List Call) (t : List Heard) (img m lasting memory : List ℕ) → Flashed p gs t img m lasting memory → (x : List ℕ) × Ran p gs t img m x

-- the definition at bytes where a wrong one would differ: with and without bit 7, an error reply, a command that stores nothing
pub record StoringBytes : Type 0 where
  pub marked : may_change 0xC7 ≡ true
  pub plain : may_change 0x4B ≡ true
  pub error : may_change 0x50 ≡ false
  pub marked_error : may_change 0xD0 ≡ false
  pub address : may_change 0xD5 ≡ true
  pub reading : may_change 0x4A ≡ false
  pub label : may_change 0x52 ≡ false
  pub position : may_change 0x42 ≡ false
