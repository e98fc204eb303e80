-- What a judgement of 4Dh comes to, in the terms of the meaning. Assumes nothing.
use Rattle.std.specs.Prelude.{ℕ, ◌-◌, ◌≤◌, ◌<◌, true, ◌≡◌, List, [], ◌∷◌, length, ℤ, Result, Ok, Err}
use Rattle.std.specs.Int.Signed.{mag}
use Rattle.meaning.specs.Bytes.{pick, arg}
use Rattle.meaning.specs.State.{Plate, State}
use Rattle.meaning.specs.Fields.{exists, clear, Survey, survey, put_status}
use Rattle.meaning.specs.Commands.{Answer, refuse, accept, shape_field}
use Rattle.wire.specs.declared.codes.ErrorCode.{ErrorCode}
use Rattle.fields.specs.declared.change.Change.{Change}
use Rattle.fields.specs.Memory.{Sized, Sits}

-- small enough for a signed number of 32 bits
pub record Chargeable (free : ℕ) (change : ℤ) : Type 0 where
  pub few : free ≤ 65535
  pub small : mag change < 1024

-- the status that is stored: the one that was asked for, and 00h where its bit 7 is clear, for then the field goes (01, "00h where no field is")
unfoldable pub stored_as : ℕ → ℕ
stored_as status = pick (exists status) status 0

-- a judgement comes to the change that is granted, or to the error code
abbrev pub Grant : Type 0
Grant = Result Change ErrorCode

-- what is granted is done and told, with the status that was asked for; else the error code
abbrev pub shaped : Grant → ℕ → State → List ℕ → ℕ → ℕ → Answer
shaped (Ok c) t s m f asked = accept (f ∷ asked ∷ []) s (put_status t (clear m c.from (c.to - c.from)) f (stored_as asked))
shaped (Err e) t s m f asked = refuse e.byte

-- the field has its place in the table, and the run of blocks its place in the memory
pub record Room (t f : ℕ) (c : Change) : Type 0 where
  pub below : f < t
  pub run : c.from ≤ c.to
  pub within : c.to ≤ t

abbrev pub SitsIn : ℕ → ℕ → Grant → Type 0
SitsIn t f (Ok c) = Room t f c
SitsIn t f (Err e) = Unit

-- .. for the field that a request's data d names
pub record Settable (t : ℕ) (m d : List ℕ) (c : Change) : Type 0 where
  pub fit : Sized t m
  pub room : Room t (arg d 0) c
  pub long : length d ≡ 3

-- one of create, modify, delete, judged
pub record Judged (codes : List ℕ) (t f asked : ℕ) (row : State → List ℕ → Answer) (r : Grant) : Type 0 where
  pub answer : (s : State) (m : List ℕ) → s.codes ≡ codes → row s m ≡ shaped r t s m f asked
  pub place : SitsIn t f r

-- free blocks among a number of blocks
pub record Blocks (t free : ℕ) : Type 0 where
  pub few : t ≤ 65535
  pub free_few : free ≤ t

-- what the judge is given: a request's data of three bytes, a survey for the field that it names, and the four codes
pub record Surveyed (t : ℕ) (v : Survey) (codes d : List ℕ) : Type 0 where
  pub few : t ≤ 65535
  pub free : v.free ≤ t
  pub sits : v.trusted ≡ true → Sits t v (arg d 0)
  pub four : length codes ≡ 4
  pub long : length d ≡ 3

-- the whole row judged, for every memory that the survey is of
pub record Shapes (codes : List ℕ) (t : ℕ) (v : Survey) (d : List ℕ) (r : Grant) : Type 0 where
  pub answer : (p : Plate) (s : State) (m : List ℕ) → p.total ≡ t → s.codes ≡ codes → v ≡ survey t m (arg d 0)
      → shape_field p s m d ≡ shaped r t s m (arg d 0) (arg d 1)
  pub place : SitsIn t (arg d 0) r
