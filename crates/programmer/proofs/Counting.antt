-- Laws of counting the requests, and of what a run can have left. Assumes nothing.
use Prim.Native.Nat.{ℕ, zero, suc, ◌+◌, ◌-◌, ◌*◌, ◌≤◌, ◌<◌}
use mathlib.Core.Path.{◌≡◌, refl, sym}
use mathlib.Core.Bool.{Bool, true, false, not}
use mathlib.Core.List.{List, [], ◌∷◌, map}
use Rattle.std.specs.List.{sum}
use Rattle.std.proofs.lemmas.List.Sums.{sum_by-cons}
use native.Mathlib.Omega.{arith}
use native.Mathlib.Nat.{not-suc-le-zero, le_of_suc-le-suc}
use lib.Dec.{T, leb, ltb, leb→le}
use lib.ListN.{length, get_or, take}
use borrow.Author.Tests.{lt-ltb, le-ltb}
use Rattle.meaning.specs.Bytes.{pick, both}
use Rattle.meaning.specs.Fields.{writable}
use Rattle.meaning.specs.Bench.{address_ok}
use Rattle.meaning.proofs.Steps.{both_0, both_1}
use Rattle.programmer.specs.Wishes.{Field, Wish, no_field, wanted}
use Rattle.programmer.specs.Steps.{requests_for, in_all, answered, answered_at}
use Rattle.programmer.specs.Reading.{FoundField}
use Rattle.programmer.specs.Running.{progress_of, can_stand, is_possible}
use Rattle.programmer.specs.declared.wish.Wanted.{Wanted}
use Rattle.programmer.specs.declared.run.Programmer.{Programmer}
use Rattle.programmer.specs.declared.step.Step.{Step}
use Rattle.programmer.specs.declared.step.Step.TheVariants.{Count, Look, Remove, Create, Store, Read, Lock}
use Rattle.programmer.specs.declared.step.Standing.{Standing}
use Rattle.programmer.specs.declared.step.Standing.TheVariants.{At, Done, Failed}

pub cost_few : (q : Bool) → 3 + pick q 0 1 ≤ 4
cost_few true = omega arith
cost_few false = omega arith

pub cost : (fs : List Field) (i : ℕ) → i < length fs
    → requests_for (take (i + 1) fs) ≡ requests_for (take i fs) + (3 + pick (writable (get_or fs i no_field).status) 0 1)
unfolding requests_for
cost [] i h = absurd (not-suc-le-zero h)
cost (f ∷ fs) zero h = omega arith
cost (f ∷ fs) (suc i) h = let e : suc i + 1 ≡ suc (i + 1) = omega arith in rw (e, cost fs i (le_of_suc-le-suc h)) (omega arith)

pub some_of : (fs : List Field) (i : ℕ) → requests_for (take i fs) ≤ requests_for fs
unfolding requests_for
some_of [] zero = omega arith
some_of [] (suc i) = omega arith
some_of (f ∷ fs) zero = omega arith
some_of (f ∷ fs) (suc i) = omega (arith, some_of fs i)

-- as a sum over the fields
abbrev pub cost_of : Field → ℕ
cost_of f = 3 + pick (writable f.status) 0 1

pub summed : (fs : List Field) → requests_for fs ≡ sum (map cost_of fs)
unfolding requests_for
summed [] = refl
summed (f ∷ fs) = omega (arith, summed fs, sum_by-cons (λ (x : ℕ). x) (cost_of f) (map cost_of fs))

-- the next of the first fields is counted
pub next_counted : (f : Field) (rest : List Field) (many counter : ℕ) → counter < many → requests_for (take (many - counter) (f ∷ rest)) ≡ cost_of f + requests_for (take (many - (counter + 1)) rest)
unfolding requests_for
next_counted f rest many counter h = let k : many - counter ≡ suc (many - (counter + 1)) = omega arith in rw k (omega arith)

-- ---- what is wanted, by what is found

module _ (l : Wish) (i : ℕ) where
  pub wanted_found : (w : Wanted) → FoundField l i w → true ≡ ltb i (length l.fields)
  wanted_found w h = sym (lt-ltb i (length l.fields) h.there)

  pub wanted_none : length l.fields ≤ i → false ≡ ltb i (length l.fields)
  wanted_none h = sym (le-ltb i (length l.fields) h)

  pub locked_found : (w : Wanted) → FoundField l i w → (q : Bool) → q ≡ writable w.status → not q ≡ both (ltb i (length l.fields)) (not (writable (wanted l i).status))
  locked_found w h q e = rw (lt-ltb i (length l.fields) h.there, h.is, e)

  pub locked_none : length l.fields ≤ i → false ≡ both (ltb i (length l.fields)) (not (writable (wanted l i).status))
  locked_none h = rw (le-ltb i (length l.fields) h)

-- what a run can have left has few fields present
pub few_present : (l : Wish) (x : Programmer) → T (is_possible l x) → x.present ≤ 255
unfolding is_possible
few_present l x h =
    leb→le x.present 255 (both_0 (leb x.present 255) (can_stand l x.present x.standing) (both_1 (address_ok x.address) (both (leb x.present 255) (can_stand l x.present x.standing)) h))

-- ---- how far it has come

-- at most four requests for a field
pub requests_few : (fs : List Field) → requests_for fs ≤ 4 * length fs
unfolding requests_for
requests_few [] = omega arith
requests_few (f ∷ fs) = omega (arith, requests_few fs, cost_few (writable f.status))

answered-few : (l : Wish) (p : ℕ) (st : Step) → answered l p st ≤ 4 + (2 * p + requests_for l.fields)
answered-few l p Count = omega arith
answered-few l p (Look k) = omega arith
answered-few l p (Remove k st) = omega arith
answered-few l p (Create i) = omega (arith, some_of l.fields i)
answered-few l p (Store i) = omega (arith, some_of l.fields i)
answered-few l p (Read i) = omega (arith, some_of l.fields i)
answered-few l p (Lock i) = omega (arith, some_of l.fields i)

-- so of a good tape's run both numbers of the progress are small
pub progress-few : (l : Wish) (x : Programmer) → length l.fields ≤ 256 → x.present ≤ 255 → ((progress_of l x).answered ≤ 1538) × ((progress_of l x).all ≤ 1538)
unfolding progress_of in_all
progress-few l x few low = (go x.standing, omega (arith, requests_few l.fields))
  where
    go : (y : Standing) → answered_at l x.present y ≤ 1538
    go (At st) = omega (arith, answered-few l x.present st, requests_few l.fields)
    go Done = omega (arith, requests_few l.fields)
    go (Failed st w) = omega (arith, answered-few l x.present st, requests_few l.fields)
