-- The ticks per bit are a power of two: one bit is set. Assumes nothing.
use Rattle.std.proofs.Common.{◌≡◌, ℕ, suc, ◌-◌, ◌<◌, ◌≤◌, Bool, true, false, eqb, [], ◌∷◌, sym, refl, subst, arith, ne_eqb}
use lib.Bits.{bit_and}
use Rattle.meaning.specs.Bytes.{among}
use Rattle.meaning.proofs.Every.{alike, as_told, every, at}

abbrev power : ℕ → Bool
power n = among n (1 ∷ 2 ∷ 4 ∷ 8 ∷ 16 ∷ 32 ∷ 64 ∷ [])

test : ℕ → Bool
test n = alike (eqb (bit_and (suc n) n) 0) (power (suc n))

computed : every test 64 ≡ true
unfolding every test among
computed = refl

-- 1 to 64
pub one_bit : (n : ℕ) → 1 ≤ n → n ≤ 64 → eqb (bit_and n (n - 1)) 0 ≡ power n
unfolding test
one_bit n low high =
    let e : n ≡ suc (n - 1) = omega arith in
    let k : eqb (bit_and (suc (n - 1)) (n - 1)) 0 ≡ power (suc (n - 1)) = as_told _ _ (at test 64 computed (n - 1) (omega arith)) in
    subst (λ (m : ℕ). eqb (bit_and m (n - 1)) 0 ≡ power m) (sym e) k

pub too_few : (n : ℕ) → n < 1 → false ≡ power n
unfolding among
too_few n h =
    let z : (x : ℕ) → 1 ≤ x → eqb n x ≡ false = λ x l. ne_eqb n x (λ e. omega arith) in
    rw (z 1 (omega arith), z 2 (omega arith), z 4 (omega arith), z 8 (omega arith), z 16 (omega arith), z 32 (omega arith), z 64 (omega arith))

pub too_many : (n : ℕ) → 64 < n → false ≡ power n
unfolding among
too_many n h =
    let z : (x : ℕ) → x ≤ 64 → eqb n x ≡ false = λ x l. ne_eqb n x (λ e. omega arith) in
    rw (z 1 (omega arith), z 2 (omega arith), z 4 (omega arith), z 8 (omega arith), z 16 (omega arith), z 32 (omega arith), z 64 (omega arith))
