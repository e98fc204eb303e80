-- What the numbers of `qs_data_part` and `qs_reply_length` promise. Assumes nothing.
use Prim.Native.Nat.{ℕ, ◌+◌, ◌≤◌, ◌<◌}
use native.Mathlib.Omega.{arith}
use mathlib.Core.Path.{◌≡◌, refl, sym, ap, subst, ◌∙◌}
use lib.Dec.{T}
use lib.ListN.{length}
use Rattle.meaning.specs.Bench.{judge}
use Rattle.meaning.specs.Bench as meaning
use Rattle.meaning.specs.Demands.{accepts}
use Rattle.std.specs.Prelude.{Some, None, Ok, Err}
use Rattle.bench.specs.Lengths.{Expected, expected_length}
use Rattle.bench.proofs.Lengths.{length_told, length-within, taken-fits, piece_fits}
use Rattle.quicksetter.specs.Verdicts.{verdict_number, expected_number, piece_number, PieceParts, QsLengthTold, QsLengthWithin, QsNoneBeginsSo}

pub piece_parts : PieceParts
unfolding piece_number
piece_parts q r = let f = piece_fits q r in record { place = omega (arith, f.1); count = omega (arith, f.1) }

-- a refusal's number is 1024 or more, and only a refusal is not accepted
over : (n : ℕ) → 1024 + n < 1024 → ⊥
over n h = omega arith

no_refusal : (v : meaning.Verdict) → verdict_number v < 1024 → T (accepts v)
unfolding verdict_number accepts
no_refusal (meaning.refusal n) h = absurd (over n h)
no_refusal (meaning.done w d) h = tt
no_refusal (meaning.failed w e) h = tt

refusal-over : (v : meaning.Verdict) → (T (accepts v) → ⊥) → 1024 ≤ verdict_number v
unfolding verdict_number accepts
refusal-over (meaning.refusal n) h = omega arith
refusal-over (meaning.done w d) h = absurd (h tt)
refusal-over (meaning.failed w e) h = absurd (h tt)

pub qs_length_told : QsLengthTold
qs_length_told q r n v t h e l k = k ∙ ap expected_number (length_told q r n h (no_refusal (judge q r) (subst (λ (x : ℕ). x < 1024) e l)))

pub qs_none-begins_so : QsNoneBeginsSo
qs_none-begins_so q r n v t h e k l = subst (λ (x : ℕ). 1024 ≤ x) (sym e) (refusal-over (judge q r) never)
  where
    never : T (accepts (judge q r)) → ⊥
    never a = let f : t ≡ length r = k ∙ ap expected_number (length_told q r n h a) in omega (arith, taken-fits q r a)

pub qs_length-within : QsLengthWithin
qs_length-within q s t e some few = go (expected_length q s) refl e
  where
    go : (x : Expected) → expected_length q s ≡ x → t ≡ expected_number x → (3 ≤ t) × (t ≤ 134)
    go (Ok None) k e = (omega arith, omega arith)
    go (Ok (Some n)) k e = subst (λ (i : ℕ). (3 ≤ i) × (i ≤ 134)) (sym e) (length-within q s n k)
    go (Err b) k e = (omega arith, omega arith)
