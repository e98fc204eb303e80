-- What a call from C returns and leaves (host/programmer.h). Assumes nothing.
use Rattle.std.specs.Prelude.{ℕ, ◌+◌, ◌*◌, ◌/◌, ◌%◌, ◌≤◌, ◌≡◌, List, [], ◌∷◌, T, eqb, ltb, length, Some, None, Result, Ok, Err}
use Rattle.meaning.specs.Bytes.{pick, both, longest_request}
use Rattle.meaning.specs.Bench.{address_ok, Written}
use Rattle.bench.specs.declared.request.Unwritten.{Unwritten}
use Rattle.bench.specs.declared.request.Unwritten.TheVariants as unwritten
use Rattle.programmer.specs.Wishes.{Checked, good, Wish, checked_tape, wish_of}
use Rattle.programmer.specs.Running.{AskedFor, at_first, asks, hears, progress_of, is_possible}
use Rattle.programmer.specs.Promises.{after_replies, AllBytes}
use Rattle.programmer.specs.declared.count.Progress.{Progress}
use Rattle.programmer.specs.declared.run.Programmer.{Programmer}
use Rattle.programmer.specs.declared.run.StartRefusal.{StartRefusal}
use Rattle.programmer.specs.declared.run.StartRefusal.TheVariants as start
use Rattle.programmer.specs.declared.wish.TapeFault.TheVariants.{BadRecord, WrongSize}
use Rattle.handheld.specs.Numbers.{run_number, run_in, is_run}
use Rattle.handheld.specs.declared.given.Refusal.{Refusal}
use Rattle.handheld.specs.declared.given.Refusal.TheVariants.{Tape, R3, R4, R5}

abbrev pub refused_with : ℕ → ℕ  -- bit 31 is set in no run, length or progress
refused_with n = 0x80000000 + n

-- why a run is not started, or a request not written, as a refusal of these calls
abbrev pub start_refusal : StartRefusal → Refusal
start_refusal (start.Tape fault) = Tape fault
start_refusal start.R5 = R5

abbrev pub unwritten_refusal : Unwritten → Refusal
unwritten_refusal unwritten.R4 = R4
unwritten_refusal unwritten.R5 = R5

-- a refusal as C is told it: of "bad tape record; body not the field's size" the record's place in the high 32 bits
abbrev pub told_number : Refusal → ℕ
told_number (Tape (BadRecord at)) = at * 0x100000000 + refused_with 1
told_number (Tape (WrongSize at)) = at * 0x100000000 + refused_with 2
told_number R3 = refused_with 3
told_number R4 = refused_with 4
told_number R5 = refused_with 5

abbrev pub place_of : Refusal → ℕ  -- the record's place, 0 where there is none
place_of (Tape (BadRecord at)) = at
place_of (Tape (WrongSize at)) = at
place_of R3 = 0
place_of R4 = 0
place_of R5 = 0

abbrev pub tape_number : Checked → ℕ  -- 0 for a good tape
tape_number (Ok u) = 0
tape_number (Err fault) = told_number (Tape fault)

-- the tape's faults, then R5
abbrev pub start_number : ℕ → Checked → ℕ
start_number n (Ok u) = pick (address_ok n) (run_number (at_first n)) (refused_with 5)
start_number n (Err fault) = tape_number (Err fault)

-- a run that is handed in with a tape: the tape's faults, then whether a run of this tape has that number
abbrev pub Given : Type 0
Given = Result Programmer Refusal

abbrev pub given_with : Checked → List ℕ → ℕ → Given
given_with (Ok u) t n = pick (both (is_run n) (is_possible (wish_of t) (run_in n))) (Ok (run_in n)) (Err R3)
given_with (Err fault) t n = Err (Tape fault)

abbrev pub given_by : List ℕ → ℕ → Given
given_by t n = given_with (checked_tape t) t n

-- what qp_next returns and leaves; R4 whether a request is due or not
pub record NextAnswer : Type 0 where
  pub number : ℕ
  pub buffer : List ℕ

abbrev pub asked_number : AskedFor → ℕ
asked_number (Ok (Some n)) = n
asked_number (Ok None) = 0
asked_number (Err unwritten.R4) = refused_with 4
asked_number (Err unwritten.R5) = refused_with 5

abbrev pub request_of : Written → NextAnswer
request_of w = record { number = pick (eqb w.refusal 0) w.count (pick (eqb w.refusal 6) 0 (refused_with w.refusal)); buffer = w.buffer }

abbrev pub next_by : Given → Wish → List ℕ → NextAnswer
next_by (Err r) l buffer = record { number = told_number r; buffer = buffer }
next_by (Ok x) l buffer =
    pick (ltb (length buffer) longest_request) (record { number = refused_with 4; buffer = buffer }) (request_of (asks x.address l x.standing buffer))

abbrev pub heard_by : Given → Wish → List ℕ → ℕ
heard_by (Err k) l r = told_number k
heard_by (Ok x) l r = run_number (hears l x r)

-- the requests answered in the high 32 bits, all in the low
abbrev pub progress_number : Progress → ℕ
progress_number g = g.answered * 0x100000000 + g.all

abbrev pub progress_by : Given → Wish → ℕ
progress_by (Err k) l = told_number k
progress_by (Ok x) l = progress_number (progress_of l x)

-- a host that hands on what the calls return, the replies newest first
unfoldable pub handed_on : ℕ → List ℕ → List (List ℕ) → ℕ
handed_on n t [] = start_number n (checked_tape t)
handed_on n t (r ∷ rs) = heard_by (given_by t (handed_on n t rs)) (wish_of t) r

-- .. has the number of the programmer's own run, is never refused, and so all that is promised of that run holds of it (programmer, `Promises`; shop)
pub record Hosted (n : ℕ) (t : List ℕ) (rs : List (List ℕ)) : Type 0 where
  pub number : handed_on n t rs ≡ run_number (after_replies n (wish_of t) rs)
  pub taken : given_by t (handed_on n t rs) ≡ Ok (after_replies n (wish_of t) rs)

abbrev pub QpRuns : Type 0
QpRuns = (n : ℕ) (t : List ℕ) (rs : List (List ℕ)) → checked_tape t ≡ good → T (address_ok n) → AllBytes rs → Hosted n t rs

-- R5 is not met on the way: each request that is due is one that the bench writes, so that what is returned is its length
abbrev pub QpWrites : Type 0
QpWrites = (t : List ℕ) (x : Programmer) (buffer : List ℕ) → checked_tape t ≡ good → T (is_possible (wish_of t) x) → longest_request ≤ length buffer
    → (request_of (asks x.address (wish_of t) x.standing buffer)).number ≤ longest_request

abbrev pub bit31 : ℕ → ℕ  -- QP_IS_REFUSED of host/programmer.h
bit31 r = r / 0x80000000 % 2

-- a host tells a refusal by bit 31: each refusal has it, and no run that was taken, request's length or progress has
pub record ToldApart (t : List ℕ) (rs : List (List ℕ)) (n : ℕ) : Type 0 where
  pub run : bit31 (handed_on n t rs) ≡ 0
  pub progress : bit31 (progress_by (given_by t (handed_on n t rs)) (wish_of t)) ≡ 0

abbrev pub QpToldApart : Type 0
QpToldApart = (n : ℕ) (t : List ℕ) (rs : List (List ℕ)) → checked_tape t ≡ good → T (address_ok n) → AllBytes rs → ToldApart t rs n

abbrev pub QpRefusals : Type 0
QpRefusals = (c : Checked) → (c ≡ good → ⊥) → bit31 (tape_number c) ≡ 1
