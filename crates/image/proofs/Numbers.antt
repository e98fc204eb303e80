-- The bytes of a number, low byte first, however many: written and read again (01, "Numbers little-endian"). Assumes nothing.
use Prim.Native.Nat.{ℕ, zero, suc, ◌+◌, ◌*◌, ◌/◌, ◌%◌, ◌<◌, ◌≤◌, ◌^◌}
use native.Mathlib.Omega.{arith}
use native.Mathlib.Nat.{div-div-eq-div-mul, mul_assoc, mul-zero, pow-suc, pow-succ'}
use mathlib.Core.Path.{◌≡◌, refl, ap, ◌∙◌}
use mathlib.Core.Bool.{Bool, true, false}
use mathlib.Core.List.{List, [], ◌∷◌, ◌++◌}
use borrow.Author.Tests.{leb-true, leb-false, le-leb, lt-leb}
use lib.Dec.{leb}
use lib.ListN.{length, take, drop, length-drop}
use lib.Seq.{get_or-drop}
use Rattle.meaning.specs.Bytes.{arg, part, little}
use Rattle.meaning.specs.State.{last_address, last_count}
use Rattle.wire.specs.Numbers.{low3, low4}
use Rattle.image.specs.Image.{number_at, count_at}

-- the w low bytes of n
unfoldable pub lowest : ℕ → ℕ → List ℕ
lowest zero n = []
lowest (suc w) n = n % 256 ∷ lowest w (n / 256)

pub three_lowest : (n : ℕ) (rest : List ℕ) → low3 n rest ≡ lowest 3 n ++ rest
unfolding lowest
three_lowest n rest = rw (div-div-eq-div-mul n 256 256)

pub four-lowest : (n : ℕ) (rest : List ℕ) → low4 n rest ≡ lowest 4 n ++ rest
unfolding lowest
four-lowest n rest = rw (div-div-eq-div-mul n 256 256, div-div-eq-div-mul n 0x10000 256)

lowest_again : (w n : ℕ) → n < 256 ^ w → little (lowest w n) ≡ n
unfolding lowest little
lowest_again zero n h = omega arith
lowest_again (suc w) n h = rw (lowest_again w (n / 256) (omega (arith, pow-suc 256 w))) (omega arith)

pub count_again : (n : ℕ) → n ≤ last_count → little (low3 n []) ≡ n
unfolding lowest
count_again n h = ap little (three_lowest n []) ∙ lowest_again 3 n (omega arith)

pub number_again : (n : ℕ) → n < 2 ^ 32 → little (low4 n []) ≡ n
unfolding lowest
number_again n h = ap little (four-lowest n []) ∙ lowest_again 4 n h

-- the first w of a list of bytes
abbrev pub Small : List ℕ → Type 0
Small s = (i : ℕ) → arg s i < 256

first_again : (w : ℕ) (s : List ℕ) → w ≤ length s → Small s → lowest w (little (take w s)) ≡ take w s
unfolding lowest little
first_again zero s h small = refl
first_again (suc w) [] h small = absurd (omega arith)
first_again (suc w) (b ∷ s) h small =
    let x : ℕ = little (take w s) in
    let low : (b + 256 * x) % 256 ≡ b = omega (arith, small 0) in
    let up : (b + 256 * x) / 256 ≡ x = omega (arith, small 0) in
    rw (low, up) (ap (λ (r : List ℕ). b ∷ r) (first_again w s (omega arith) (λ i. small (suc i))))

first_fits : (w : ℕ) (s : List ℕ) → Small s → little (take w s) < 256 ^ w
unfolding little
first_fits zero s small = omega arith
first_fits (suc w) [] small = omega (arith, pow-suc 256 w, first_fits w [] small)
first_fits (suc w) (b ∷ s) small = omega (arith, pow-suc 256 w, small 0, first_fits w s (λ i. small (suc i)))

first_more : (w : ℕ) (s : List ℕ) → little (take (suc w) s) ≡ little (take w s) + 256 ^ w * arg s w
unfolding little
first_more zero [] = refl
first_more zero (b ∷ s) = omega arith
first_more (suc w) [] = rw mul-zero
first_more (suc w) (b ∷ s) = rw (first_more w s, pow-succ' 256 w) (simp mul_assoc (omega arith))

-- bytes that stand in a list
module _ (s : List ℕ) (small : Small s) where
  from : (i : ℕ) → Small (drop i s)
  from i j = rw (get_or-drop i s j 0) (small (i + j))

  pub there_again : (i w : ℕ) → i + w ≤ length s → lowest w (little (part s i w)) ≡ part s i w
  unfolding part
  there_again i w h = first_again w (drop i s) (rw length-drop (omega arith)) (from i)

  pub there-fits : (i w : ℕ) → little (part s i w) < 256 ^ w
  unfolding part
  there-fits i w = first_fits w (drop i s) (from i)

  pub few-counted : count_at s ≤ last_count
  few-counted = omega (arith, there-fits 4 3)

  -- counter and address as one word
  joined : number_at s 4 ≡ count_at s + 0x1000000 * arg s 7
  unfolding part
  joined = first_more 3 (drop 4 s) ∙ rw (get_or-drop 4 s 3 0)

  pub counter-below : number_at s 4 % 0x1000000 ≡ count_at s
  counter-below = rw joined (omega (arith, few-counted))

  pub address_above : leb (number_at s 4) 0x1FFFFFFF ≡ leb (arg s 7) last_address
  address_above = go (leb (arg s 7) last_address) refl
    where
      go : (t : Bool) → leb (arg s 7) last_address ≡ t → leb (number_at s 4) 0x1FFFFFFF ≡ t
      go true e = le-leb (number_at s 4) 0x1FFFFFFF (omega (arith, joined, few-counted, leb-true (arg s 7) last_address e))
      go false e = lt-leb (number_at s 4) 0x1FFFFFFF (omega (arith, joined, leb-false (arg s 7) last_address e))
