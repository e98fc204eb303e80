-- Stamps that wrap around: the gap between two is the spacing (01, "a gap is taken modulo 2^32"). Assumes nothing.
use Prim.Native.Nat.{ℕ, zero, suc, ◌+◌, ◌-◌, ◌%◌, ◌^◌, ◌<◌}
use mathlib.Core.Path.{◌≡◌, refl, ap, ◌∙◌}
use native.Mathlib.Omega.{arith}
use native.Mathlib.Numerals.{add-one}
use native.Mathlib.Nat.{zero-add, mod-lt}
use Rattle.meaning.specs.Characters.{gap}
use Rattle.meaning.specs.Sleeping.{later}
use Rattle.meaning.proofs.Gaps.{gap_self, gap-later}
use Rattle.exchange.specs.Calls.{stamp_of}

-- the next stamp by wrapping add, the gap by wrapping subtract: the spacing modulo 2^32, from every tick
pub gap_of_spacing : (tick spacing : ℕ) → tick < 2 ^ 32 → gap tick ((tick + spacing) % 2 ^ 32) ≡ spacing % 2 ^ 32
unfolding later
gap_of_spacing tick spacing low = gap-later tick tick spacing low ∙ rw (gap_self tick, zero-add)

pub stamp_low : (tick spacing i : ℕ) → tick < 2 ^ 32 → stamp_of tick spacing i < 2 ^ 32
unfolding stamp_of
stamp_low tick spacing zero low = low
stamp_low tick spacing (suc i) low = mod-lt (stamp_of tick spacing i + spacing) (omega arith)

-- the next one, and the one before that
pub stamp_next : (tick spacing i : ℕ) {t : ℕ} → t ≡ stamp_of tick spacing i → (t + spacing) % 2 ^ 32 ≡ stamp_of tick spacing (i + 1)
unfolding stamp_of
stamp_next tick spacing i e = rw (e, add-one)

pub stamp_kept : (tick spacing i : ℕ) {t : ℕ} → t ≡ stamp_of tick spacing i → t ≡ stamp_of tick spacing (i + 1 - 1)
stamp_kept tick spacing i e = e ∙ ap (stamp_of tick spacing) (omega arith)

pub stamp_first : (tick spacing : ℕ) → tick ≡ stamp_of tick spacing 0
unfolding stamp_of
stamp_first tick spacing = refl
