-- The bench's answers as numbers. Assumes nothing.
use Prim.Native.Nat.{ℕ, ◌+◌, ◌*◌, ◌≤◌}
use mathlib.Core.Path.{◌≡◌, refl, sym, ap, subst, ◌∙◌}
use mathlib.Core.Bool.{true, false}
use mathlib.Core.List.{List}
use lib.ListN.{length}
use Rattle.meaning.specs.Bench as meaning
use Rattle.meaning.specs.Bench.{judge}
use Rattle.std.specs.Prelude.{Ok, Err}
use Rattle.bench.specs.declared.request.Unwritten.TheVariants.{R4, R5}
use Rattle.bench.specs.declared.reply.Piece.{Piece}
use Rattle.bench.specs.declared.reply.Verdict.TheVariants.{Done, DoneWithWarning, Error, ErrorWithWarning}
use Rattle.bench.proofs.Lengths.{piece_fits}
use Rattle.bench.specs.Outcomes.{Writing, Judging, written_of, verdict_of, without_data, piece_from, piece_by}
use Rattle.bench.proofs.Verdicts.{handed_by}
use Rattle.quicksetter.specs.Verdicts.{request_number, written_number, verdict_number, verdict_code, piece_number, Writes}

-- the code's number is the meaning's
written_is : (w : Writing) (buffer : List ℕ) → request_number (written_of w buffer) ≡ written_number w
unfolding request_number
written_is (Ok n) buffer = refl
written_is (Err R4) buffer = refl
written_is (Err R5) buffer = refl

written-buffer : (w : Writing) (buffer : List ℕ) → (written_of w buffer).buffer ≡ buffer
written-buffer (Ok n) buffer = refl
written-buffer (Err R4) buffer = refl
written-buffer (Err R5) buffer = refl

pub writes : {w : meaning.Written} (x : Writing) {r : ℕ} {buffer' : List ℕ} → written_of x buffer' ≡ w → r ≡ written_number x → Writes w r buffer'
writes x {r} {buffer'} e q =
    record {
      answer = q ∙ sym (written_is x buffer') ∙ ap request_number e;
      buffer = sym (written-buffer x buffer') ∙ ap (λ (y : meaning.Written). y.buffer) e;
    }

verdict-is : (v : Judging) → verdict_number (verdict_of v) ≡ verdict_code v
unfolding verdict_number
verdict-is (Ok Done) = refl
verdict-is (Ok DoneWithWarning) = refl
verdict-is (Ok (Error e)) = refl
verdict-is (Ok (ErrorWithWarning e)) = refl
verdict-is (Err b) = refl

-- the number says nothing of the data
without_data_lem : (v : meaning.Verdict) → verdict_number (without_data v) ≡ verdict_number v
unfolding verdict_number
without_data_lem (meaning.refusal n) = refl
without_data_lem (meaning.done true d) = refl
without_data_lem (meaning.done false d) = refl
without_data_lem (meaning.failed true e) = refl
without_data_lem (meaning.failed false e) = refl

pub judged : (v : meaning.Verdict) (x : Judging) {r : ℕ} → verdict_of x ≡ without_data v → r ≡ verdict_code x → r ≡ verdict_number v
judged v x e q = q ∙ sym (verdict-is x) ∙ ap verdict_number e ∙ without_data_lem v

-- the data part's place and length, from the contracts of the judge and of the piece: neither is large
module _ (q r : List ℕ) (p : Piece) (v : Judging) (e : verdict_of v ≡ without_data (judge q r)) (h : piece_from p ≡ piece_by (length r) v) where
  piece_handed : piece_from p ≡ meaning.handed q r
  piece_handed = h ∙ sym (handed_by q r v e)

  pub piece_small : (p.from ≤ 2) × (p.count ≤ 131)
  piece_small = subst (λ (x : meaning.Piece). (x.from ≤ 2) × (x.count ≤ 131)) (sym piece_handed) (piece_fits q r)

  pub piece_number_lem : p.from * 0x100000000 + p.count ≡ piece_number (meaning.handed q r)
  unfolding piece_number
  piece_number_lem = ap piece_number piece_handed
