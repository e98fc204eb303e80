-- What the programmer's entry points answer (02, Req 04). Assumes nothing.
use Rattle.std.specs.Prelude.{ℕ, max, Bool, true, false, not, List, length, eqb, leb, ltb, Option, Some, None, Result, Ok, Err}
use Rattle.meaning.specs.Bytes.{pick, both}
use Rattle.meaning.specs.Fields.{writable}
use Rattle.meaning.specs.Bench as meaning
use Rattle.meaning.specs.Bench.{address_ok, writes}
use Rattle.bench.specs.declared.request.Unwritten.{Unwritten}
use Rattle.bench.specs.declared.request.Unwritten.TheVariants as unwritten
use Rattle.programmer.specs.Wishes.{Checked, Wish, wanted}
use Rattle.programmer.specs.Steps.{due, after_reply, still_there, in_all, answered_at}
use Rattle.programmer.specs.declared.run.Programmer.{Programmer}
use Rattle.programmer.specs.declared.run.StartRefusal.{StartRefusal}
use Rattle.programmer.specs.declared.run.StartRefusal.TheVariants.{Tape, R5}
use Rattle.programmer.specs.declared.count.Progress.{Progress}
use Rattle.programmer.specs.declared.step.Step.{Step}
use Rattle.programmer.specs.declared.step.Step.TheVariants.{Count, Look, Remove, Create, Store, Read, Lock}
use Rattle.programmer.specs.declared.step.Why.{Why}
use Rattle.programmer.specs.declared.step.Why.TheVariants.{Judgement, Error, Differs}
use Rattle.programmer.specs.declared.step.Standing.{Standing}
use Rattle.programmer.specs.declared.step.Standing.TheVariants.{At, Done, Failed}

abbrev pub at_first : ℕ → Programmer  -- the first request is 4Eh, and no field has been told
at_first n = record { address = n; present = 0; standing = At Count }

-- "The whole tape is checked before the first request"; then R5, an address that the bench does not write
abbrev pub Started : Type 0
Started = Result Programmer StartRefusal

abbrev pub started_by : ℕ → Checked → Started
started_by n (Ok u) = pick (address_ok n) (Ok (at_first n)) (Err R5)
started_by n (Err fault) = Err (Tape fault)

-- what is asked: the length of the request that is due, or that none is due any more; or the bench's refusal
abbrev pub AskedFor : Type 0
AskedFor = Result (Option ℕ) Unwritten

-- by the paper's numbers, with the buffer as it is afterwards; 6 where nothing is due any more, which the paper does not number
abbrev pub asked_of : AskedFor → List ℕ → meaning.Written
asked_of (Ok (Some n)) buffer = record { refusal = 0; count = n; buffer = buffer }
asked_of (Ok None) buffer = record { refusal = 6; count = 0; buffer = buffer }
asked_of (Err unwritten.R4) buffer = record { refusal = 4; count = 0; buffer = buffer }
asked_of (Err unwritten.R5) buffer = record { refusal = 5; count = 0; buffer = buffer }

-- the request that is due is written (meaning, `writes`: R4 before R5); where none is, nothing is
unfoldable pub asks : ℕ → Wish → Standing → List ℕ → meaning.Written
asks n l (At st) buffer = writes n (due l st).command (due l st).body buffer
asks n l Done buffer = record { refusal = 6; count = 0; buffer = buffer }
asks n l (Failed st w) buffer = record { refusal = 6; count = 0; buffer = buffer }

-- the reply is taken; as many fields were present as were ever still there
unfoldable pub hears : Wish → Programmer → List ℕ → Programmer
hears l x r =
    let next = after_reply x.address l x.standing r in
    record { address = x.address; present = max x.present (still_there next); standing = next }

-- "so many of so many": the requests answered, and all
unfoldable pub progress_of : Wish → Programmer → Progress
progress_of l x = record { answered = answered_at l x.present x.standing; all = in_all l x.present }

-- a step that a run of this wish can reach, n fields having been present: a field that was present, or is wanted, and only a read-only one is locked
abbrev pub reachable : Wish → ℕ → Step → Bool
reachable l n Count = eqb n 0
reachable l n (Look k) = ltb k n
reachable l n (Remove k st) = ltb k n
reachable l n (Create i) = ltb i (length l.fields)
reachable l n (Store i) = ltb i (length l.fields)
reachable l n (Read i) = ltb i (length l.fields)
reachable l n (Lock i) = both (ltb i (length l.fields)) (not (writable (wanted l i).status))

abbrev pub is_read : Step → Bool
is_read Count = false
is_read (Look k) = false
is_read (Remove k st) = false
is_read (Create i) = false
is_read (Store i) = false
is_read (Read i) = true
is_read (Lock i) = false

abbrev pub fails_by : Step → Why → Bool  -- B0 to B6, any error code, and at reading back that the bytes differ
fails_by st (Judgement n) = leb n 6
fails_by st (Error e) = true
fails_by st Differs = is_read st

abbrev pub can_stand : Wish → ℕ → Standing → Bool
can_stand l n (At st) = reachable l n st
can_stand l n Done = true
can_stand l n (Failed st w) = both (fails_by st w) (reachable l n st)

-- R1: a programmer that can stand so in a run of this wish, each of B0 to B6 being taken for a reason why it ended
unfoldable pub is_possible : Wish → Programmer → Bool
is_possible l x = both (address_ok x.address) (both (leb x.present 255) (can_stand l x.present x.standing))
