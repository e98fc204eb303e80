-- The decimal digits of a number are those that the library writes. Assumes nothing.
use Prim.Native.Nat.{ℕ, zero, suc, ◌+◌, ◌-◌, ◌*◌, ◌/◌, ◌%◌, ◌^◌, ◌≤◌, ◌<◌}
use mathlib.Core.Path.{◌≡◌, ap, ◌∙◌}
use mathlib.Core.List.{List, [], ◌∷◌, ◌++◌, append-nil}
use native.Mathlib.Nat.{pow-suc}
use native.Mathlib.Omega.{arith}
use native.Mathlib.Decide.{dec_lt}
use lib.ListN.{length, take, drop}
use lib.Seq.{take_all}
use borrow.Author.Tests.{lt-ltb, le-ltb}
use Rattle.std.specs.Fmt.{decimal}
use Rattle.std.proofs.lemmas.Fmt.{decimal_digit, decimal_step, length-decimal-le}
use Rattle.tape.specs.Text.{decimal_in, decimal_of}

same_in : (j n : ℕ) → n < 10 ^ suc j → n < 2 ^ 64 → decimal n ≡ decimal_in j n
unfolding decimal_in
same_in zero n h l = let e : n % 10 ≡ n = omega arith in rw e (decimal_digit n h)
same_in (suc j) n h l =
    let q : 10 ^ suc (suc j) ≡ 10 ^ suc j * 10 = pow-suc 10 (suc j) in
    let u : n / 10 < 10 ^ suc j = omega arith in
    go (dec_lt n 10) (same_in j (n / 10) u (omega arith))
  where
    go : Dec (n < 10) → decimal (n / 10) ≡ decimal_in j (n / 10) → decimal n ≡ decimal_in (suc j) n
    go (yes k) e = rw (lt-ltb n 10 k) (decimal_digit n k)
    go (no k) e = rw (le-ltb n 10 (omega arith)) (decimal_step n (omega arith) l ∙ ap (λ (x : List ℕ). x ++ ((48 + n % 10) ∷ [])) e)

pub same_digits : (n : ℕ) → n < 2 ^ 64 → decimal n ≡ decimal_of n
unfolding decimal_of
same_digits n h = same_in 19 n (omega arith) h

-- a place has at most 20 digits, a tick 10
pub few_digits : (n : ℕ) → n < 2 ^ 64 → length (decimal_of n) ≤ 20
few_digits n h = rw (← same_digits n h) (length-decimal-le 20 n (omega arith) (omega arith) h)

pub tick_digits : (n : ℕ) → n < 2 ^ 32 → length (decimal_of n) ≤ 10
tick_digits n h = rw (← same_digits n (omega arith)) (length-decimal-le 10 n (omega arith) (omega arith) (omega arith))

-- the digits stand at the end of the bytes that the library wrote
pub last_written : (n start : ℕ) (digits : List ℕ) → n < 2 ^ 64 → start + length (decimal n) ≡ 20 → drop start digits ≡ decimal n ++ [] → take (20 - start) (drop start digits) ≡ decimal_of n
last_written n start digits h l e = rw (e, append-nil) (take_all (20 - start) (decimal n) (omega arith) ∙ same_digits n h)
