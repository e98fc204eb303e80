-- The bench's answers as the numbers that C sees (01, "Named refusals"). Assumes nothing.
use Rattle.std.specs.Prelude.{ℕ, ◌+◌, ◌*◌, ◌/◌, ◌%◌, ◌≤◌, ◌<◌, ◌≡◌, true, false, List, eqb, length, take, Some, None, Ok, Err}
use Rattle.meaning.specs.Bytes.{pick, longest_reply}
use Rattle.meaning.specs.Bench as meaning
use Rattle.bench.specs.declared.request.Unwritten.TheVariants.{R4, R5}
use Rattle.bench.specs.declared.reply.Verdict.TheVariants.{Done, DoneWithWarning, Error, ErrorWithWarning}
use Rattle.bench.specs.Outcomes.{Writing, Judging, check_number}
use Rattle.bench.specs.Lengths.{Expected, expected_length}

-- a request's length, or 256 + n for Rn
unfoldable pub request_number : meaning.Written → ℕ
request_number w = pick (eqb w.refusal 0) w.count (256 + w.refusal)

pub record Writes (w : meaning.Written) (r : ℕ) (buffer' : List ℕ) : Type 0 where
  pub answer : r ≡ request_number w
  pub buffer : buffer' ≡ w.buffer

-- 0 done, 1 done with warning, 256 + code error, 512 + code error with warning, 1024 + n for Bn
unfoldable pub verdict_number : meaning.Verdict → ℕ
verdict_number (meaning.refusal n) = 1024 + n
verdict_number (meaning.done false d) = 0
verdict_number (meaning.done true d) = 1
verdict_number (meaning.failed false e) = 256 + e
verdict_number (meaning.failed true e) = 512 + e

-- the same of the code's cases
abbrev pub written_number : Writing → ℕ
written_number (Ok n) = n
written_number (Err R4) = 260
written_number (Err R5) = 261

abbrev pub verdict_code : Judging → ℕ
verdict_code (Ok Done) = 0
verdict_code (Ok DoneWithWarning) = 1
verdict_code (Ok (Error e)) = 256 + e
verdict_code (Ok (ErrorWithWarning e)) = 512 + e
verdict_code (Err b) = 1024 + check_number b

-- 0 while a reply's length is not known, then the length; 1024 + n for Bn
abbrev pub expected_number : Expected → ℕ
expected_number (Ok None) = 0
expected_number (Ok (Some n)) = n
expected_number (Err b) = 1024 + check_number b

-- 01, "a piece of the reply itself": where the data part starts in the reply, and its length, as one number
unfoldable pub piece_number : meaning.Piece → ℕ
piece_number h = h.from * 0x100000000 + h.count

-- its place is got back by division, its length by remainder
pub record Parts (h : meaning.Piece) (number : ℕ) : Type 0 where
  pub place : number / 0x100000000 ≡ h.from
  pub count : number % 0x100000000 ≡ h.count

abbrev pub PieceParts : Type 0  -- 01, "By a second call the data part is handed back"
PieceParts = (q r : List ℕ) → Parts (meaning.handed q r) (piece_number (meaning.handed q r))

-- 01, column "Reply data": v is the verdict's number on a reply, t the length's number when two or more of its bytes had come: if v is no refusal, t is the reply's length
abbrev pub QsLengthTold : Type 0
QsLengthTold = (q r : List ℕ) (n v t : ℕ) → 2 ≤ n → v ≡ verdict_number (meaning.judge q r) → v < 1024 → t ≡ expected_number (expected_length q (take n r)) → t ≡ length r

-- B0, B4, B5: and if t is a refusal, so is v
abbrev pub QsNoneBeginsSo : Type 0
QsNoneBeginsSo = (q r : List ℕ) (n v t : ℕ) → 2 ≤ n → v ≡ verdict_number (meaning.judge q r) → t ≡ expected_number (expected_length q (take n r)) → 1024 ≤ t → 1024 ≤ v

-- 01, R3: a number that is neither 0 nor a refusal is a length of 3 to 134
abbrev pub QsLengthWithin : Type 0
QsLengthWithin = (q s : List ℕ) (t : ℕ) → t ≡ expected_number (expected_length q s) → 0 < t → t < 1024 → (3 ≤ t) × (t ≤ longest_reply)
