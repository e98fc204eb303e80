-- Numbers modulo 2 to the position bits. Assumes nothing.
use Prim.Native.Nat.{ℕ, ◌%◌, ◌^◌, ◌≤◌, ◌<◌}
use native.Mathlib.Omega.{arith}
use native.Mathlib.Nat.{mod-lt, le_of_lt}
use native.Mathlib.Decide.{ℕ_discrete}
use mathlib.Core.Path.{◌≡◌, sym}
use mathlib.Core.Bool.{true}
use borrow.Author.Tests.{lt-ltb}
use lib.Dec.{ltb}
use lib.Pow.{pow-lt, pow_pos}

module _ (bits : ℕ) {n : ℕ} (few : bits ≤ 32) (e : n ≡ 2 ^ bits) where
  pub some : 0 < n
  some = rw e (pow_pos bits)

  pub low : n ≤ 4294967296
  low = rw e (go (ℕ_discrete bits 32))
    where
      go : Dec (bits ≡ 32) → 2 ^ bits ≤ 4294967296
      go (yes k) = rw k (omega arith)
      go (no k) = le_of_lt (pow-lt {i = bits} {j = 32} (omega (arith, k)))

  pub rest : (x : ℕ) → x % n < n
  rest x = mod-lt x some

-- with more bits than 32 every 32-bit number is below
pub all-below : (o bits : ℕ) → o < 2 ^ 32 → 32 < bits → true ≡ ltb o (2 ^ bits)
all-below o bits few more = sym (lt-ltb o (2 ^ bits) (omega (arith, few, pow-lt {i = 32} {j = bits} more)))
