-- No two differing outcomes satisfy a public contract of the bench (01, "How tightly the contracts bind"). Assumes nothing.
use mathlib.Core.Path.{◌≡◌, refl, ap}
use mathlib.Core.List.{List}
use Prim.Native.Nat.{ℕ}
use lib.Dec.{eqb}
use Rattle.std.specs.Prelude.{Ok, Err}
use Rattle.meaning.specs.Bytes.{pick}
use Rattle.meaning.specs.Bench as meaning
use Rattle.wire.proofs.Tight.{one_outcome, same_outcome}
use Rattle.bench.specs.Outcomes.{Writing, Judging, written_of, check_number, verdict_of, without_data, piece_from}
use Rattle.bench.specs.Lengths.{Expected, expected_length}
use Rattle.bench.specs.declared.request.Unwritten.TheVariants.{R4, R5}
use Rattle.bench.specs.declared.reply.Piece.{Piece}
use Rattle.bench.specs.declared.reply.Refusal.{Refusal}
use Rattle.bench.specs.declared.reply.Refusal.TheVariants.{B0, B1, B2, B3, B4, B5, B6}
use Rattle.bench.specs.declared.reply.Verdict.TheVariants.{Done, DoneWithWarning, Error, ErrorWithWarning}

-- the paper's numbers and words lead back to the code's answer
abbrev pub refusal_at : ℕ → Refusal
refusal_at n =
    pick (eqb n 0) B0 (pick (eqb n 1) B1 (pick (eqb n 2) B2 (pick (eqb n 3) B3 (pick (eqb n 4) B4 (pick (eqb n 5) B5 B6)))))

abbrev pub verdict_back : meaning.Verdict → Judging
verdict_back (meaning.refusal n) = Err (refusal_at n)
verdict_back (meaning.done w d) = Ok (pick w DoneWithWarning Done)
verdict_back (meaning.failed w e) = Ok (pick w (ErrorWithWarning e) (Error e))

number-back : (b : Refusal) → refusal_at (check_number b) ≡ b
number-back B0 = refl
number-back B1 = refl
number-back B2 = refl
number-back B3 = refl
number-back B4 = refl
number-back B5 = refl
number-back B6 = refl

pub verdict_back_lem : (v : Judging) → verdict_back (verdict_of v) ≡ v
verdict_back_lem (Ok Done) = refl
verdict_back_lem (Ok DoneWithWarning) = refl
verdict_back_lem (Ok (Error e)) = refl
verdict_back_lem (Ok (ErrorWithWarning e)) = refl
verdict_back_lem (Err b) = ap Err (number-back b)

pub judge_tight : (q r : List ℕ) (v w : Judging) → verdict_of v ≡ without_data (meaning.judge q r) → verdict_of w ≡ without_data (meaning.judge q r) → v ≡ w
judge_tight q r v w = one_outcome verdict_of verdict_back verdict_back_lem (without_data (meaning.judge q r)) v w

-- what is returned, and the buffer afterwards
abbrev written_back : meaning.Written → Writing × List ℕ
written_back w = (pick (eqb w.refusal 4) (Err R4) (pick (eqb w.refusal 5) (Err R5) (Ok w.count)), w.buffer)

written_back_lem : (w : Writing × List ℕ) → written_back (written_of w.0 w.1) ≡ w
written_back_lem (Ok n, buffer) = refl
written_back_lem (Err R4, buffer) = refl
written_back_lem (Err R5, buffer) = refl

pub write_request_tight : (n c : ℕ) (d buffer : List ℕ) (a b : Writing × List ℕ)
    → written_of a.0 a.1 ≡ meaning.writes n c d buffer → written_of b.0 b.1 ≡ meaning.writes n c d buffer → a ≡ b
write_request_tight n c d buffer a b = one_outcome (λ (w : Writing × List ℕ). written_of w.0 w.1) written_back written_back_lem (meaning.writes n c d buffer) a b

-- the piece: its bytes and its place are each given
pub data_of_tight : {P : Type 0} (bytes : List ℕ) (place : P) (a b : List ℕ × P) → a ≡ (bytes, place) → b ≡ (bytes, place) → a ≡ b
data_of_tight {P} bytes place a b = one_outcome (λ (x : List ℕ × P). x) (λ (x : List ℕ × P). x) (λ (x : List ℕ × P). refl) (bytes, place) a b

-- the piece as numbers
pub piece_tight : (h : meaning.Piece) (a b : Piece) → piece_from a ≡ h → piece_from b ≡ h → a ≡ b
piece_tight h a b =
    one_outcome piece_from (λ (x : meaning.Piece). record { from = x.from; count = x.count }) (λ (x : Piece). refl) h a b

pub reply_length_tight : (q s : List ℕ) (a b : Expected) → a ≡ expected_length q s → b ≡ expected_length q s → a ≡ b
reply_length_tight q s = same_outcome (expected_length q s)
