-- Whatever is answered, the run stays possible, counts its replies and ends. Assumes nothing.
use Prim.Native.Nat.{ℕ, zero, suc, ◌+◌, ◌-◌, ◌*◌, ◌≤◌, ◌<◌, max}
use mathlib.Core.Path.{◌≡◌, refl}
use mathlib.Core.Bool.{Bool, true, false, not, false≢true}
use mathlib.Core.List.{List, [], ◌∷◌}
use native.Mathlib.Omega.{arith}
use lib.Dec.{T, leb, ltb, eqb-suc-zero, eqb→eq, ltb→lt, lt→ltb, le→leb}
use lib.ListN.{length, get_or, take, drop}
use lib.Seq.{get_or-drop}
use Rattle.meaning.specs.Bytes.{pick, both, arg, same}
use Rattle.meaning.specs.Fields.{writable}
use Rattle.meaning.specs.Frames.{data_of}
use Rattle.meaning.specs.Bench.{Verdict, refusal, done, failed, bad, branch, content, address_ok, judge}
use Rattle.meaning.specs.Demands.{Grounds}
use Rattle.meaning.proofs.Fitting.{only_if_fits}
use Rattle.meaning.proofs.Steps.{both_0, both_1}
use Rattle.meaning.proofs.Choices.{both_intro}
use Rattle.programmer.specs.Wishes.{Wish, wanted}
use Rattle.programmer.specs.Steps.{making, clearing, locking, onto, on_verdict, bytes_due, after_reply, still_there, requests_for, in_all, answered}
use Rattle.programmer.specs.Running.{hears, reachable, can_stand, is_possible}
use Rattle.programmer.specs.Promises.{after_replies, has_ended, AllBytes, StaysPossible, CountsReplies, EndsAlways, StaysOver}
use Rattle.programmer.specs.declared.run.Programmer.{Programmer}
use Rattle.programmer.specs.declared.step.Step.{Step}
use Rattle.programmer.specs.declared.step.Step.TheVariants.{Count, Look, Remove, Create, Store, Read, Lock}
use Rattle.programmer.specs.declared.step.Why.TheVariants.{Differs}
use Rattle.programmer.specs.declared.step.Standing.{Standing}
use Rattle.programmer.specs.declared.step.Standing.TheVariants.{At, Done, Failed}
use Rattle.programmer.proofs.Counting.{cost, some_of}

max-zero : (n : ℕ) → max n 0 ≡ n
max-zero n = omega arith

pub stays_over : StaysOver
unfolding has_ended bytes_due hears after_reply
stays_over l x r e = go x.standing refl e
  where
    go : (y : Standing) → x.standing ≡ y → has_ended y ≡ true → (bytes_due x.address l x.standing ≡ []) × (hears l x r ≡ x)
    go (At st) q e = absurd (false≢true e)
    go Done q e = (rw q, rw (q, max-zero x.present))
    go (Failed st w) q e = (rw q, rw (q, max-zero x.present))

-- the request goes on being for the same board
pub same_address : (n : ℕ) (l : Wish) (rs : List (List ℕ)) → (after_replies n l rs).address ≡ n
unfolding after_replies hears
same_address n l [] = refl
same_address n l (r ∷ rs) = same_address n l rs

pub stands_after : (n : ℕ) (l : Wish) (r : List ℕ) (rs : List (List ℕ)) → (after_replies n l (r ∷ rs)).standing ≡ after_reply n l (after_replies n l rs).standing r
unfolding after_replies hears
stands_after n l r rs = rw (same_address n l rs)

-- a byte of the data is one of the reply, or past its end
taken-byte : (n : ℕ) (r : List ℕ) → ((i : ℕ) → get_or r i 0 < 256) → (j : ℕ) → get_or (take n r) j 0 < 256
taken-byte zero r B j = omega arith
taken-byte (suc n) [] B j = omega arith
taken-byte (suc n) (x ∷ r) B zero = B 0
taken-byte (suc n) (x ∷ r) B (suc j) = taken-byte n r (λ i. B (suc i)) j

pub data_byte : (r : List ℕ) → ((i : ℕ) → get_or r i 0 < 256) → (j : ℕ) → arg (data_of r) j < 256
unfolding data_of
data_byte r B j = taken-byte (length r - 3) (drop 2 r) (λ i. rw (get_or-drop 2 r i 0) (B (2 + i))) j

-- ---- one reply

module _ (l : Wish) where
  abbrev F : ℕ
  F = length l.fields

  -- p fields were present, and k replies came: what a run keeps to
  abbrev Kept : ℕ → ℕ → Standing → Type 0
  Kept p k (At st) = T (reachable l p st) × (answered l p st ≡ k)
  Kept p k Done = Unit
  Kept p k (Failed st w) = T (can_stand l p (Failed st w))

  -- .. with the number present as the next request tells it
  abbrev KeptOn : ℕ → ℕ → Standing → Type 0
  KeptOn p k x = Kept (max p (still_there x)) k x × (max p (still_there x) ≤ 255)

  making-kept : (p k i : ℕ) → p ≤ 255 → 1 + (2 * p + requests_for (take i l.fields)) ≡ k → KeptOn p k (making l i)
  unfolding making
  making-kept p k i few e = go (ltb i F) (λ h. h)
    where
      go : (q : Bool) → (T q → T (ltb i F)) → KeptOn p k (pick q (At (Create i)) Done)
      go true h = rw (max-zero p) ((h tt, e), few)
      go false h = rw (max-zero p) (tt, few)

  -- none is left of p that were present, or j of them
  clearing-kept : (p k j : ℕ) → j ≤ 255 → p ≤ 255 → (j ≡ 0 → 1 + 2 * p ≡ k) → (1 ≤ j → 1 + 2 * (max p j - j) ≡ k) → KeptOn p k (clearing l j)
  unfolding clearing requests_for
  clearing-kept p k zero low few none some = making-kept p k 0 few (omega (arith, none refl))
  clearing-kept p k (suc j) low few none some =
      let a : suc j - 1 ≡ j = omega arith in
      rw (eqb-suc-zero j, a) ((lt→ltb j (max p (j + 1)) (omega arith), omega (arith, some (omega arith))), omega arith)

  cost_at : (i : ℕ) → T (ltb i F) → requests_for (take (i + 1) l.fields) ≡ requests_for (take i l.fields) + (3 + pick (writable (wanted l i).status) 0 1)
  cost_at i h = cost l.fields i (ltb→lt i F h)

  locking-kept : (p k i : ℕ) → p ≤ 255 → T (ltb i F) → 3 + (2 * p + requests_for (take i l.fields)) ≡ k → KeptOn p (suc k) (locking l i)
  unfolding locking
  locking-kept p k i few h e = go (writable (wanted l i).status) refl
    where
      go : (q : Bool) → writable (wanted l i).status ≡ q → KeptOn p (suc k) (pick q (making l (i + 1)) (At (Lock i)))
      go true w = making-kept p (suc k) (i + 1) few (rw (cost_at i h, w) (omega (arith, e)))
      go false w = rw (max-zero p) ((rw w (both_intro (ltb i F) true h tt), omega (arith, e)), few)

  -- a good reply leads on, and is counted
  onto-kept : (st : Step) (p k : ℕ) (d : List ℕ) → p ≤ 255 → arg d 1 < 256 → T (reachable l p st) → answered l p st ≡ k → KeptOn p (suc k) (onto l st d)
  unfolding onto
  onto-kept Count p k d few low h e =
      let z : p ≡ 0 = eqb→eq p 0 h in
      clearing-kept p (suc k) (arg d 1) (omega arith) few (λ n. omega (arith, e, z)) (λ n. omega (arith, e, z))
  onto-kept (Look j) p k d few low h e =
      let m : max p (j + 1) ≡ p = omega (arith, ltb→lt j p h) in
      rw m ((h, omega (arith, e)), few)
  onto-kept (Remove j st) p k d few low h e =
      let m : j < p = ltb→lt j p h in
      clearing-kept p (suc k) j (omega arith) few (λ n. omega (arith, e, m)) (λ n. omega (arith, e, m))
  onto-kept (Create i) p k d few low h e = rw (max-zero p) ((h, omega (arith, e)), few)
  onto-kept (Store i) p k d few low h e = rw (max-zero p) ((h, omega (arith, e)), few)
  onto-kept (Read i) p k d few low h e = go (same (drop 3 d) (wanted l i).bytes)
    where
      go : (q : Bool) → KeptOn p (suc k) (pick q (locking l i) (Failed (Read i) Differs))
      go true = locking-kept p k i few h e
      go false = rw (max-zero p) (h, few)
  onto-kept (Lock i) p k d few low h e =
      let wanted-i = both_0 (ltb i F) (not (writable (wanted l i).status)) h in
      making-kept p (suc k) (i + 1) few (go (writable (wanted l i).status) refl (both_1 (ltb i F) (not (writable (wanted l i).status)) h) (cost_at i wanted-i))
    where
      go : (q : Bool) → writable (wanted l i).status ≡ q → T (not q)
          → requests_for (take (i + 1) l.fields) ≡ requests_for (take i l.fields) + (3 + pick (writable (wanted l i).status) 0 1)
          → 1 + (2 * p + requests_for (take (i + 1) l.fields)) ≡ suc k
      go true w n c = absurd n
      go false w n c = rw (c, w) (omega (arith, e))

-- B0 to B6: a refusal has one of their numbers
abbrev pub Few : Verdict → Type 0
Few (refusal n) = n ≤ 6
Few (done w d) = Unit
Few (failed w e) = Unit

few-bad : (n : ℕ) (b : Bool) (v : Verdict) → n ≤ 6 → Few v → Few (bad n b v)
unfolding bad
few-bad n true v h f = h
few-bad n false v h f = f

few-branch : (b : Bool) (v w : Verdict) → Few v → Few w → Few (branch b v w)
unfolding branch
few-branch true v w f g = f
few-branch false v w f g = g

pub few_checks : (q r : List ℕ) → Few (judge q r)
unfolding judge content
few_checks q r =
    few-bad 0 _ _ (omega arith) (few-bad 1 _ _ (omega arith) (few-bad 2 _ _ (omega arith) (few-bad 3 _ _ (omega arith) (few-bad 4 _ _ (omega arith)
    (few-branch _ _ _ (few-bad 5 _ _ (omega arith) tt) (few-bad 5 _ _ (omega arith) (few-bad 6 _ _ (omega arith) tt)))))))

-- ---- any number of replies

module _ (n : ℕ) (l : Wish) where
  -- what a run keeps to, k replies having come
  pub record Runs (k : ℕ) (x : Programmer) : Type 0 where
    pub few : x.present ≤ 255
    pub kept : Kept l x.present k x.standing

  verdict-kept : (st : Step) (p k : ℕ) (q r : List ℕ) → ((i : ℕ) → get_or r i 0 < 256) → p ≤ 255 → T (reachable l p st) → answered l p st ≡ k
      → (v : Verdict) → Grounds q r v → Few v → KeptOn l p (suc k) (on_verdict l st v)
  unfolding on_verdict
  verdict-kept st p k q r B few h e (refusal j) g f = rw (max-zero p) (both_intro (leb j 6) (reachable l p st) (le→leb j 6 f) h, few)
  verdict-kept st p k q r B few h e (done w d) g f = onto-kept l st p k d few (rw g.part (data_byte r B 1)) h e
  verdict-kept st p k q r B few h e (failed w c) g f = rw (max-zero p) (h, few)

  reply-kept : (x : Programmer) (k : ℕ) (r : List ℕ) → ((i : ℕ) → get_or r i 0 < 256) → Runs k x → Runs (suc k) (hears l x r)
  unfolding hears after_reply
  reply-kept x k r B R = go x.standing refl R.kept
    where
      from : KeptOn l x.present (suc k) (after_reply x.address l x.standing r) → Runs (suc k) (hears l x r)
      from h = record { few = h.1; kept = h.0 }

      go : (y : Standing) → x.standing ≡ y → Kept l x.present k y → Runs (suc k) (hears l x r)
      go (At st) q h =
          let w = bytes_due x.address l (At st) in
          from (rw q (verdict-kept st x.present k w r B R.few h.0 h.1 (judge w r) (only_if_fits w r) (few_checks w r)))
      go Done q h = from (rw (q, max-zero x.present) (tt, R.few))
      go (Failed st w) q h = from (rw (q, max-zero x.present) (h, R.few))

  pub runs : (rs : List (List ℕ)) → AllBytes rs → Runs (length rs) (after_replies n l rs)
  unfolding after_replies
  runs [] B = record { few = omega arith; kept = (tt, refl) }
  runs (r ∷ rs) B = reply-kept (after_replies n l rs) (length rs) r B.0 (runs rs B.1)

pub stays_possible : StaysPossible
unfolding is_possible
stays_possible n l rs good B =
    let R = runs n l rs B in
    let x = after_replies n l rs in
    both_intro (address_ok x.address) (both (leb x.present 255) (can_stand l x.present x.standing)) (rw (same_address n l rs) good)
    (both_intro (leb x.present 255) (can_stand l x.present x.standing) (le→leb x.present 255 R.few) (go x.standing x.present (length rs) R.kept))
  where
    go : (y : Standing) (p k : ℕ) → Kept l p k y → T (can_stand l p y)
    go (At st) p k h = h.0
    go Done p k h = tt
    go (Failed st w) p k h = h

-- fewer are answered than are to come in all
short_of : (l : Wish) (p : ℕ) (st : Step) → T (reachable l p st) → answered l p st < in_all l p
unfolding in_all
short_of l p Count h = omega arith
short_of l p (Look k) h = omega (arith, ltb→lt k p h)
short_of l p (Remove k st) h = omega (arith, ltb→lt k p h)
short_of l p (Create i) h = omega (arith, cost_at l i h, some_of l.fields (i + 1))
short_of l p (Store i) h = omega (arith, cost_at l i h, some_of l.fields (i + 1))
short_of l p (Read i) h = omega (arith, cost_at l i h, some_of l.fields (i + 1))
short_of l p (Lock i) h = go (writable (wanted l i).status) refl (both_1 (ltb i (length l.fields)) (not (writable (wanted l i).status)) h)
    (cost_at l i (both_0 (ltb i (length l.fields)) (not (writable (wanted l i).status)) h))
  where
    go : (q : Bool) → writable (wanted l i).status ≡ q → T (not q)
        → requests_for (take (i + 1) l.fields) ≡ requests_for (take i l.fields) + (3 + pick (writable (wanted l i).status) 0 1)
        → 4 + (2 * p + requests_for (take i l.fields)) < 1 + (2 * p + requests_for l.fields)
    go true w n c = absurd n
    go false w n c = omega (arith, rw w at c, some_of l.fields (i + 1))

pub counts_replies : CountsReplies
counts_replies n l rs st B e =
    let R = runs n l rs B in
    let h : Kept l (after_replies n l rs).present (length rs) (At st) = rw e at R.kept in
    record { counts = h.1; short = short_of l (after_replies n l rs).present st h.0; few = R.few }

pub ends_always : EndsAlways
unfolding has_ended in_all
ends_always n l rs B h = go (after_replies n l rs).standing refl
  where
    go : (y : Standing) → (after_replies n l rs).standing ≡ y → has_ended y ≡ true
    go (At st) e =
        let w = counts_replies n l rs st B e in
        absurd (omega (arith, w.counts, w.short, w.few))
    go Done e = refl
    go (Failed st w) e = refl
