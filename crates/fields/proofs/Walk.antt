-- A walk over status bytes from the front. `drop i l` is what is left at place i; each law says what one more byte, four more, or the end does to
-- a definition of the meaning on what is left. Assumes nothing.
use Prim.Native.Nat.{ℕ, zero, suc, ◌+◌, ◌-◌, ◌*◌, ◌≤◌, ◌<◌}
use mathlib.Core.Bool.{Bool, true, false}
use mathlib.Core.Path.{◌≡◌, refl, sym, ap, ◌∙◌}
use mathlib.Core.List.{List, [], ◌∷◌}
use native.Mathlib.Numerals.{add-one}
use native.Mathlib.Omega.{arith}
use lib.Dec.{eqb}
use lib.ListN.{length, take, drop, get_or, length-drop, drop_of_length-le}
use lib.Seq.{drop-cons, drop-drop, take-take, take_all, get_or-drop}
use Rattle.std.specs.Prelude.{◌↔◌, IsTrue, EachIndex}
use Rattle.std.specs.Simd.{first_chunks}
use borrow.Author.Tests.{eq-eqb, ne_eqb, eqb-true, eqb-false}
use Rattle.meaning.specs.Bytes.{both, blank, part, little}
use Rattle.meaning.specs.Fields.{blocks, exists, field_count, used}
use Rattle.meaning.proofs.Choices.{both_left, both_right}

both_assoc : (a b c : Bool) → both (both a b) c ≡ both a (both b c)
both_assoc true b c = refl
both_assoc false b c = refl

-- a low byte before the others: all are 00h exactly where the number is 0
low-zero : (b n : ℕ) → eqb (b + 256 * n) 0 ≡ both (eqb b 0) (eqb n 0)
low-zero b n = go (eqb b 0) (eqb n 0) refl refl
  where
    go : (x y : Bool) → eqb b 0 ≡ x → eqb n 0 ≡ y → eqb (b + 256 * n) 0 ≡ both x y
    go true true p q = eq-eqb (b + 256 * n) 0 (omega (arith, eqb-true b 0 p, eqb-true n 0 q))
    go true false p q = ne_eqb (b + 256 * n) 0 (λ z. eqb-false n 0 q (omega arith))
    go false y p q = ne_eqb (b + 256 * n) 0 (λ z. eqb-false b 0 p (omega arith))

little-zero : (l : List ℕ) → eqb (little l) 0 ≡ blank l
unfolding little blank
little-zero [] = refl
little-zero (b ∷ bs) = low-zero b (little bs) ∙ ap (both (eqb b 0)) (little-zero bs)

-- the first n bytes, and the others
blank_split : (n : ℕ) (l : List ℕ) → blank l ≡ both (blank (take n l)) (blank (drop n l))
unfolding blank
blank_split zero l = refl
blank_split (suc n) [] = refl
blank_split (suc n) (b ∷ bs) = ap (both (eqb b 0)) (blank_split n bs) ∙ sym (both_assoc (eqb b 0) (blank (take n bs)) (blank (drop n bs)))

-- `&l[a..]` is what is left at a
pub rest-is : (l : List ℕ) (a : ℕ) → take (length l - a) (drop a l) ≡ drop a l
rest-is l a = take_all (length l - a) (drop a l) (omega (arith, length-drop a l))

-- .. and its bytes are those from a on
pub rest_at : (l : List ℕ) (a i n : ℕ) → n ≡ a + i → get_or (take (length l - a) (drop a l)) i 0 ≡ get_or l n 0
rest_at l a i n e = ap (λ (r : List ℕ). get_or r i 0) (rest-is l a) ∙ get_or-drop a l i 0 ∙ ap (λ (k : ℕ). get_or l k 0) (sym e)

-- .. cut into fours
four_is : (k : ℕ) (l : List ℕ) (i : ℕ) → i < k → get_or (first_chunks 4 k l) i [] ≡ take 4 (drop (4 * i) l)
four_is zero l i h = absurd (omega arith)
four_is (suc k) l zero h = refl
four_is (suc k) l (suc i) h =
    let n : 4 + 4 * i ≡ 4 * suc i = omega arith in
    four_is k (drop 4 l) i (omega arith) ∙ ap (take 4) (drop-drop (4 * i) 4 l ∙ ap (λ (j : ℕ). drop j l) n)

pub four_part : (k : ℕ) (l r : List ℕ) (fours : List (List ℕ)) (i : ℕ) → r ≡ l → fours ≡ first_chunks 4 k r → i < k → part (get_or fours i []) 0 4 ≡ part l (4 * i) 4
unfolding part
four_part k l r fours i e f h = rw (f, four_is k r i h, e) (take-take 4 4 (drop (4 * i) l) (omega arith))

-- all bytes are 00h, one by one
blank_all : (l : List ℕ) → EachIndex l (λ k. get_or l k 0 ≡ 0) → blank l ≡ true
unfolding blank
blank_all [] h = refl
blank_all (b ∷ bs) h =
    let first : b ≡ 0 = h 0 (omega arith) in
    rw first (blank_all bs (λ k i. h (suc k) (omega arith)))

blank_at : (l : List ℕ) → blank l ≡ true → EachIndex l (λ k. get_or l k 0 ≡ 0)
unfolding blank
blank_at [] e k i = absurd (omega arith)
blank_at (b ∷ bs) e zero i = eqb-true b 0 (both_left (eqb b 0) (blank bs) e)
blank_at (b ∷ bs) e (suc k) i = blank_at bs (both_right (eqb b 0) (blank bs) e) k (omega arith)

pub blank_each : (b : Bool) (l : List ℕ) → IsTrue b ↔ EachIndex l (λ k. get_or l k 0 ≡ 0) → b ≡ blank l
blank_each true l k = sym (blank_all l (k.0 refl))
blank_each false l k = go (blank l) refl
  where
    go : (x : Bool) → blank l ≡ x → false ≡ x
    go true e = k.1 (blank_at l e)
    go false e = refl

module _ (l : List ℕ) (i : ℕ) where
  pub next : i < length l → drop i l ≡ get_or l i 0 ∷ drop (i + 1) l
  next h = rw (add-one, drop-cons l i 0)

  -- four bytes as a number, and what is left
  blank-four : blank (drop i l) ≡ both (eqb (little (part l i 4)) 0) (blank (drop (i + 4) l))
  unfolding part
  blank-four = blank_split 4 (drop i l) ∙ rw (little-zero (take 4 (drop i l)), drop-drop 4 i l)

  pub four-more : little (part l i 4) ≡ 0 → blank (drop i l) ≡ blank (drop (i + 4) l)
  four-more e = blank-four ∙ ap (λ (b : Bool). both b (blank (drop (i + 4) l))) (eq-eqb (little (part l i 4)) 0 e)

  pub four-stop : (little (part l i 4) ≡ 0 → ⊥) → blank (drop i l) ≡ false
  four-stop e = blank-four ∙ ap (λ (b : Bool). both b (blank (drop (i + 4) l))) (ne_eqb (little (part l i 4)) 0 e)

  pub count-more : i < length l → exists (get_or l i 0) ≡ true → field_count (drop i l) ≡ suc (field_count (drop (i + 1) l))
  unfolding field_count
  count-more h e = rw (next h) (rw e)

  pub count-stop : i < length l → exists (get_or l i 0) ≡ false → field_count (drop i l) ≡ 0
  unfolding field_count
  count-stop h e = rw (next h) (rw e)

  pub count_end : length l ≤ i → field_count (drop i l) ≡ 0
  unfolding field_count
  count_end h = rw (drop_of_length-le l h)

  pub used-more : i < length l → exists (get_or l i 0) ≡ true → used (drop i l) ≡ blocks (get_or l i 0) + used (drop (i + 1) l)
  unfolding used
  used-more h e = rw (next h) (rw e)

  pub used-stop : i < length l → exists (get_or l i 0) ≡ false → used (drop i l) ≡ 0
  unfolding used
  used-stop h e = rw (next h) (rw e)

  pub used_end : length l ≤ i → used (drop i l) ≡ 0
  unfolding used
  used_end h = rw (drop_of_length-le l h)
