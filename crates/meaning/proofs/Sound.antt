-- The computed test of the status table is the paper's "for some n". Assumes nothing.
use Prim.Native.Nat.{ℕ, zero, suc, ◌+◌, ◌≤◌, ◌<◌}
use mathlib.Core.Path.{◌≡◌, refl, sym, ap, ◌∙◌}
use mathlib.Core.Bool.{Bool, true, false}
use mathlib.Core.List.{List, [], ◌∷◌}
use native.Mathlib.Omega.{arith}
use native.Mathlib.Nat.{not-suc-le-zero, le_of_suc-le-suc}
use lib.Dec.{T, eqb, leb, eqb→eq, leb→le, le→leb}
use lib.ListN.{length, get_or, take, drop}
use Rattle.meaning.specs.Bytes.{pick, both, blank}
use Rattle.meaning.specs.Fields.{blocks, exists, field_count, used, sound}
use Rattle.meaning.specs.Demands.{SoundFor, SoundForSome}
use Rattle.meaning.proofs.Steps.{both_0, both_1}
use Rattle.meaning.proofs.Tables.{used-cons, count-cons, count_le}
use Rattle.meaning.proofs.Choices.{both_intro}

counted_exist : (tb : List ℕ) (f : ℕ) → f < field_count tb → T (exists (get_or tb f 0))
unfolding field_count
counted_exist [] f l = absurd (not-suc-le-zero l)
counted_exist (s ∷ r) f l = go (exists s) f (λ h. h) (counted_exist r) l
  where
    go : (q : Bool) (f : ℕ) → (T q → T (exists s)) → ((g : ℕ) → g < field_count r → T (exists (get_or r g 0)))
        → f < pick q (suc (field_count r)) 0 → T (exists (get_or (s ∷ r) f 0))
    go true zero h rest l = h tt
    go true (suc f) h rest l = rest f (le_of_suc-le-suc l)
    go false f h rest l = absurd (not-suc-le-zero l)

used-counted : (tb : List ℕ) → used (take (field_count tb) tb) ≡ used tb
unfolding field_count
used-counted [] = refl
used-counted (s ∷ r) = go (exists s) (λ h. h) refl (used-counted r)
  where
    go : (q : Bool) → (T q → T (exists s)) → exists s ≡ q → used (take (field_count r) r) ≡ used r → used (take (pick q (suc (field_count r)) 0) (s ∷ r)) ≡ used (s ∷ r)
    go true h e u = used-cons s (take (field_count r) r) (h tt) ∙ ap (λ (x : ℕ). blocks s + x) u ∙ sym (used-cons s r (h tt))
    go false h e u = unfold used in rw e

blank-at : (l : List ℕ) → T (blank l) → (f : ℕ) → get_or l f 0 ≡ 0
unfolding blank
blank-at [] h f = refl
blank-at (x ∷ l) h zero = eqb→eq x 0 (both_0 (eqb x 0) (blank l) h)
blank-at (x ∷ l) h (suc f) = blank-at l (both_1 (eqb x 0) (blank l) h) f

blank-from : (l : List ℕ) (n : ℕ) → T (blank (drop n l)) → (f : ℕ) → n ≤ f → get_or l f 0 ≡ 0
blank-from l zero h f k = blank-at l h f
blank-from [] (suc n) h f k = refl
blank-from (x ∷ l) (suc n) h zero k = absurd (not-suc-le-zero k)
blank-from (x ∷ l) (suc n) h (suc f) k = blank-from l n h f (le_of_suc-le-suc k)

all-blank : (l : List ℕ) → ((f : ℕ) → get_or l f 0 ≡ 0) → T (blank l)
unfolding blank
all-blank [] h = tt
all-blank (x ∷ l) h = both_intro (eqb x 0) (blank l) (rw (h 0) tt) (all-blank l (λ f. h (suc f)))

-- where the first n exist and the rest are 00h, n is the number of fields, and what follows them is blank
module _ where
  pub counted : (tb : List ℕ) (n : ℕ) → n ≤ length tb → ((f : ℕ) → f < n → T (exists (get_or tb f 0))) → ((f : ℕ) → n ≤ f → get_or tb f 0 ≡ 0) → field_count tb ≡ n
  unfolding field_count exists
  counted [] zero l e z = refl
  counted [] (suc n) l e z = absurd (not-suc-le-zero l)
  counted (s ∷ r) zero l e z = rw (z 0 (omega arith))
  counted (s ∷ r) (suc n) l e z =
      count-cons s r (e 0 (omega arith)) ∙ ap suc (counted r n (le_of_suc-le-suc l) (λ f k. e (suc f) (omega (arith, k))) (λ f k. z (suc f) (omega (arith, k))))

  pub blank-after : (tb : List ℕ) (n : ℕ) → ((f : ℕ) → n ≤ f → get_or tb f 0 ≡ 0) → T (blank (drop n tb))
  blank-after tb zero z = all-blank tb (λ f. z f (omega arith))
  blank-after [] (suc n) z = unfold blank in tt
  blank-after (s ∷ r) (suc n) z = blank-after r n (λ f k. z (suc f) (omega (arith, k)))

pub sound_for_some : SoundForSome
unfolding sound
sound_for_some t tb = (there, here)
  where
    there : T (both (blank (drop (field_count tb) tb)) (leb (used tb) t)) → SoundFor t (field_count tb) tb
    there h = record {
      there = count_le tb;
      existing = counted_exist tb;
      rest = blank-from tb (field_count tb) (both_0 (blank (drop (field_count tb) tb)) (leb (used tb) t) h);
      few = rw (used-counted tb) (leb→le (used tb) t (both_1 (blank (drop (field_count tb) tb)) (leb (used tb) t) h));
    }

    here : (n : ℕ) → SoundFor t n tb → T (both (blank (drop (field_count tb) tb)) (leb (used tb) t))
    here n s =
        let c : field_count tb ≡ n = counted tb n s.there s.existing s.rest in
        both_intro (blank (drop (field_count tb) tb)) (leb (used tb) t) (rw c (blank-after tb n s.rest))
        (le→leb (used tb) t (rw (sym (used-counted tb), c) s.few))
