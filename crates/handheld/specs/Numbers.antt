-- A run as the number that C keeps, and back (host/programmer.h). Assumes nothing.
use Rattle.std.specs.Prelude.{ℕ, zero, suc, ◌+◌, ◌*◌, ◌/◌, ◌%◌, Bool, List, [], ◌∷◌, eqb}
use Rattle.meaning.specs.Bytes.{pick, little}
use Rattle.programmer.specs.declared.run.Programmer.{Programmer}
use Rattle.programmer.specs.declared.step.Step.{Step}
use Rattle.programmer.specs.declared.step.Step.TheVariants.{Count, Look, Remove, Create, Store, Read, Lock}
use Rattle.programmer.specs.declared.step.Why.{Why}
use Rattle.programmer.specs.declared.step.Why.TheVariants.{Judgement, Error, Differs}
use Rattle.programmer.specs.declared.step.Standing.{Standing}
use Rattle.programmer.specs.declared.step.Standing.TheVariants.{At, Done, Failed}

-- a step by its stage, its field and its status; 0 for what it has not
abbrev pub stage_part : Step → ℕ
stage_part Count = 1
stage_part (Look k) = 2
stage_part (Remove k st) = 3
stage_part (Create i) = 4
stage_part (Store i) = 5
stage_part (Read i) = 6
stage_part (Lock i) = 7

abbrev pub field_part : Step → ℕ
field_part Count = 0
field_part (Look k) = k
field_part (Remove k st) = k
field_part (Create i) = i
field_part (Store i) = i
field_part (Read i) = i
field_part (Lock i) = i

abbrev pub status_part : Step → ℕ
status_part Count = 0
status_part (Look k) = 0
status_part (Remove k st) = st
status_part (Create i) = 0
status_part (Store i) = 0
status_part (Read i) = 0
status_part (Lock i) = 0

-- why it failed, and the number of the check or the error code
abbrev pub why_of : Why → ℕ
why_of (Judgement n) = 1
why_of (Error e) = 2
why_of Differs = 3

abbrev pub number_part : Why → ℕ
number_part (Judgement n) = n
number_part (Error e) = e
number_part Differs = 0

-- the five low bytes: stage, field, status, why, number
abbrev pub standing_bytes : Standing → List ℕ
standing_bytes (At st) = stage_part st ∷ field_part st ∷ status_part st ∷ 0 ∷ 0 ∷ []
standing_bytes Done = 8 ∷ 0 ∷ 0 ∷ 0 ∷ 0 ∷ []
standing_bytes (Failed st w) = stage_part st ∷ field_part st ∷ status_part st ∷ why_of w ∷ number_part w ∷ []

-- .. and two more: the fields that were present, the address
unfoldable pub run_number : Programmer → ℕ
run_number x = little (standing_bytes x.standing) + 0x10000000000 * (x.present % 256) + 0x1000000000000 * (x.address % 256)

unfoldable pub byte_in : ℕ → ℕ → ℕ  -- byte i of a number, the low one first
byte_in zero n = n % 256
byte_in (suc i) n = byte_in i (n / 256)

unfoldable pub step_in : ℕ → ℕ → ℕ → Step  -- by stage, field and status
step_in g f st =
    pick (eqb g 1) Count
    (pick (eqb g 2) (Look f)
    (pick (eqb g 3) (Remove f st)
    (pick (eqb g 4) (Create f)
    (pick (eqb g 5) (Store f)
    (pick (eqb g 6) (Read f) (Lock f))))))

unfoldable pub why_in : ℕ → ℕ → Why
why_in w n = pick (eqb w 1) (Judgement n) (pick (eqb w 2) (Error n) Differs)

unfoldable pub standing_in : ℕ → ℕ → ℕ → ℕ → ℕ → Standing  -- by stage, field, status, why and number
standing_in g f st w n = pick (eqb g 8) Done (pick (eqb w 0) (At (step_in g f st)) (Failed (step_in g f st) (why_in w n)))

-- what a number would be, if it is one of a run
unfoldable pub run_in : ℕ → Programmer
run_in n = record {
  address = byte_in 6 n;
  present = byte_in 5 n;
  standing = standing_in (byte_in 0 n) (byte_in 1 n) (byte_in 2 n) (byte_in 3 n) (byte_in 4 n);
}

-- .. and it is exactly if that run has this number
unfoldable pub is_run : ℕ → Bool
is_run n = eqb (run_number (run_in n)) n
