-- A rule about small numbers, tested of each of them by computing. Assumes nothing.
use Prim.Native.Nat.{ℕ, zero, suc, ◌<◌}
use native.Mathlib.Omega.{arith}
use native.Mathlib.Decide.{ℕ_discrete}
use mathlib.Core.Path.{◌≡◌, refl, sym, subst}
use mathlib.Core.Bool.{Bool, true, false}
use Rattle.meaning.specs.Bytes.{both}
use Rattle.meaning.proofs.Choices.{both_left, both_right}

-- whether two tests tell the same
abbrev pub alike : Bool → Bool → Bool
alike true b = b
alike false true = false
alike false false = true

pub as_told : (a b : Bool) → alike a b ≡ true → a ≡ b
as_told true b e = sym e
as_told false true e = e
as_told false false e = refl

-- a test that holds of each number below n
unfoldable pub every : (ℕ → Bool) → ℕ → Bool
every f zero = true
every f (suc n) = both (f n) (every f n)

pub at : (f : ℕ → Bool) (n : ℕ) → every f n ≡ true → (k : ℕ) → k < n → f k ≡ true
unfolding every
at f zero t k h = absurd (omega arith)
at f (suc n) t k h = go (ℕ_discrete k n) (λ l. at f n (both_right (f n) (every f n) t) k l)
  where
    go : Dec (k ≡ n) → (k < n → f k ≡ true) → f k ≡ true
    go (yes e) r = subst (λ (m : ℕ). f m ≡ true) (sym e) (both_left (f n) (every f n) t)
    go (no d) r = r (omega (arith, d))
