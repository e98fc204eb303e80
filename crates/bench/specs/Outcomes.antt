-- What the bench's answers say, by this paper's numbers (01, "Named refusals"): R4, R5, B0 to B6. Assumes nothing.
use Rattle.std.specs.Prelude.{◌≡◌, true, false, List, [], ℕ, ◌-◌, ◌≤◌, length, Result, Ok, Err}
use Rattle.meaning.specs.Bench as meaning
use Rattle.bench.specs.declared.request.Unwritten.{Unwritten}
use Rattle.bench.specs.declared.request.Unwritten.TheVariants.{R4, R5}
use Rattle.bench.specs.declared.reply.Piece.{Piece}
use Rattle.bench.specs.declared.reply.Refusal.{Refusal}
use Rattle.bench.specs.declared.reply.Refusal.TheVariants.{B0, B1, B2, B3, B4, B5, B6}
use Rattle.bench.specs.declared.reply.Verdict.{Verdict}
use Rattle.bench.specs.declared.reply.Verdict.TheVariants.{Done, DoneWithWarning, Error, ErrorWithWarning}

abbrev pub Writing : Type 0
Writing = Result ℕ Unwritten

abbrev pub Judging : Type 0
Judging = Result Verdict Refusal

-- what writing came to, with the buffer as it is afterwards
abbrev pub written_of : Writing → List ℕ → meaning.Written
written_of (Ok n) buffer = record { refusal = 0; count = n; buffer = buffer }
written_of (Err R4) buffer = record { refusal = 4; count = 0; buffer = buffer }
written_of (Err R5) buffer = record { refusal = 5; count = 0; buffer = buffer }

abbrev pub check_number : Refusal → ℕ
check_number B0 = 0
check_number B1 = 1
check_number B2 = 2
check_number B3 = 3
check_number B4 = 4
check_number B5 = 5
check_number B6 = 6

-- the verdict says nothing of the data: that is handed back by a second call
abbrev pub verdict_of : Judging → meaning.Verdict
verdict_of (Ok Done) = meaning.done false []
verdict_of (Ok DoneWithWarning) = meaning.done true []
verdict_of (Ok (Error e)) = meaning.failed false e
verdict_of (Ok (ErrorWithWarning e)) = meaning.failed true e
verdict_of (Err b) = meaning.refusal (check_number b)

abbrev pub without_data : meaning.Verdict → meaning.Verdict
without_data (meaning.refusal n) = meaning.refusal n
without_data (meaning.done w d) = meaning.done w []
without_data (meaning.failed w e) = meaning.failed w e

abbrev pub piece_from : Piece → meaning.Piece
piece_from p = record { from = p.from; count = p.count }

-- the piece of a reply of n bytes, by what was judged of it
abbrev pub piece_by : ℕ → Judging → meaning.Piece
piece_by n (Ok v) = record { from = 2; count = n - 3 }
piece_by n (Err b) = record { from = 0; count = 0 }

-- a request and a reply, and the reply is no error reply
pub record Ordinary (q r : List ℕ) : Type 0 where
  pub long : 3 ≤ length q
  pub heard : 3 ≤ length r
  pub ordinary : meaning.error_reply q r ≡ false
