-- Done is reached only over bytes that were read back as wanted; a deletion comes after its status, a lock after its bytes. Assumes nothing.
use Prim.Native.Nat.{ℕ, suc, ◌+◌, ◌-◌, ◌≤◌, ◌<◌}
use mathlib.Core.Path.{◌≡◌, refl, sym, subst}
use mathlib.Core.Logic.{◌⊎◌, inl, inr}
use mathlib.Core.Bool.{Bool, true, false, not}
use mathlib.Core.List.{List, [], ◌∷◌}
use native.Mathlib.Omega.{arith}
use native.Mathlib.Nat.{not-suc-le-zero}
use native.Mathlib.Decide.{dec_lt}
use lib.Dec.{T, eqb, ltb, nltb→le}
use lib.ListN.{length, drop}
use Rattle.meaning.specs.Bytes.{pick, arg, same}
use Rattle.meaning.specs.Fields.{writable}
use Rattle.meaning.specs.Bench.{Verdict, refusal, done, failed, judge}
use Rattle.meaning.proofs.Sheets.{same_eq}
use Rattle.programmer.specs.Wishes.{Wish, wanted}
use Rattle.programmer.specs.Steps.{making, clearing, locking, onto, on_verdict, bytes_due, after_reply}
use Rattle.programmer.specs.Promises.{after_replies, Brings, Brought, DoneReadBack, TellsStatus, ReadBeforeDeleted, ReadBeforeLocked}
use Rattle.programmer.specs.declared.step.Step.{Step}
use Rattle.programmer.specs.declared.step.Step.TheVariants.{Count, Look, Remove, Create, Store, Read, Lock}
use Rattle.programmer.specs.declared.step.Why.TheVariants.{Differs}
use Rattle.programmer.specs.declared.step.Standing.{Standing}
use Rattle.programmer.specs.declared.step.Standing.TheVariants.{At, Done, Failed}
use Rattle.programmer.proofs.Leading.{making_by, clearing_by, locking_by}
use Rattle.programmer.proofs.Replies.{stands_after}

module _ (n : ℕ) (l : Wish) where
  abbrev now : List (List ℕ) → Standing
  now rs = (after_replies n l rs).standing

  -- how many wanted fields were read back, by where the run stands
  abbrev passed : Standing → ℕ
  passed (At Count) = 0
  passed (At (Look k)) = 0
  passed (At (Remove k st)) = 0
  passed (At (Create i)) = i
  passed (At (Store i)) = i
  passed (At (Read i)) = i
  passed (At (Lock i)) = suc i
  passed Done = length l.fields
  passed (Failed st w) = 0

  making-passed : (i : ℕ) → passed (making l i) ≤ i
  unfolding making
  making-passed i = go (ltb i (length l.fields)) (nltb→le i (length l.fields))
    where
      go : (q : Bool) → (T (not q) → length l.fields ≤ i) → passed (pick q (At (Create i)) Done) ≤ i
      go true h = omega arith
      go false h = h tt

  clearing-passed : (k : ℕ) → passed (clearing l k) ≤ 0
  unfolding clearing
  clearing-passed k = go (eqb k 0)
    where
      go : (q : Bool) → passed (pick q (making l 0) (At (Look (k - 1)))) ≤ 0
      go true = making-passed 0
      go false = omega arith

  locking-passed : (i : ℕ) → passed (locking l i) ≤ suc i
  unfolding locking
  locking-passed i = go (writable (wanted l i).status)
    where
      go : (q : Bool) → passed (pick q (making l (i + 1)) (At (Lock i))) ≤ suc i
      go true = omega (arith, making-passed (i + 1))
      go false = omega arith

  module _ (rs : List (List ℕ)) (r : List ℕ) where
    brings : (j : ℕ) (d : List ℕ) (w : Bool) → now rs ≡ At (Read j) → judge (bytes_due n l (At (Read j))) r ≡ done w d → drop 3 d ≡ (wanted l j).bytes → Brings n l rs r j
    brings j d w e v s = record { due_then = e; warned = w; data_part = d; verdict = v; same_bytes = s }

    -- a good reply: what counts as read back was so before, or this reply brought it
    good : (st : Step) (d : List ℕ) (w : Bool) → now rs ≡ At st → judge (bytes_due n l (At st)) r ≡ done w d
        → (i : ℕ) → i < passed (onto l st d) → Brings n l rs r i ⊎ (i < passed (At st))
    unfolding onto
    good Count d w e v i h = absurd (omega (arith, clearing-passed (arg d 1)))
    good (Look k) d w e v i h = inr h
    good (Remove k st) d w e v i h = absurd (omega (arith, clearing-passed k))
    good (Create j) d w e v i h = inr h
    good (Store j) d w e v i h = inr h
    good (Read j) d w e v i h = go (same (drop 3 d) (wanted l j).bytes) (same_eq (drop 3 d) (wanted l j).bytes) h
      where
        here : drop 3 d ≡ (wanted l j).bytes → i ≡ j → Brings n l rs r i
        here s k = subst (λ (x : ℕ). Brings n l rs r x) (sym k) (brings j d w e v s)

        by : drop 3 d ≡ (wanted l j).bytes → i < suc j → Dec (i < j) → Brings n l rs r i ⊎ (i < j)
        by s h (yes k) = inr k
        by s h (no k) = inl (here s (omega arith))

        go : (q : Bool) → (T q → drop 3 d ≡ (wanted l j).bytes) → i < passed (pick q (locking l j) (Failed (Read j) Differs)) → Brings n l rs r i ⊎ (i < j)
        go true s h = by (s tt) (omega (arith, locking-passed j)) (dec_lt i j)
        go false s h = absurd (not-suc-le-zero h)
    good (Lock j) d w e v i h = inr (omega (arith, making-passed (j + 1)))

    judged : (st : Step) → now rs ≡ At st → (v : Verdict) → judge (bytes_due n l (At st)) r ≡ v
        → (i : ℕ) → i < passed (on_verdict l st v) → Brings n l rs r i ⊎ (i < passed (At st))
    unfolding on_verdict
    judged st e (refusal k) q i h = absurd (not-suc-le-zero h)
    judged st e (done w d) q i h = good st d w e q i h
    judged st e (failed w k) q i h = absurd (not-suc-le-zero h)

    next : (x : Standing) → now rs ≡ x → (i : ℕ) → i < passed (after_reply n l x r) → Brings n l rs r i ⊎ (i < passed x)
    unfolding after_reply
    next (At st) e i h = judged st e (judge (bytes_due n l (At st)) r) refl i h
    next Done e i h = inr h
    next (Failed st w) e i h = inr h

    -- what a step that was reached by this reply says: of a deletion, that it told the status; of a lock, that it brought the bytes
    abbrev Says : Standing → Type 0
    Says (At Count) = Unit
    Says (At (Look k)) = Unit
    Says (At (Remove k st)) = TellsStatus n l rs r k st
    Says (At (Create i)) = Unit
    Says (At (Store i)) = Unit
    Says (At (Read i)) = Unit
    Says (At (Lock i)) = Brings n l rs r i
    Says Done = Unit
    Says (Failed st w) = Unit

    making-says : (i : ℕ) → Says (making l i)
    making-says = making_by l Says (λ i. tt) tt

    clearing-says : (k : ℕ) → Says (clearing l k)
    clearing-says = clearing_by l Says (λ i. tt) tt (λ k. tt)

    onto-says : (st : Step) (w : Bool) (d : List ℕ) → now rs ≡ At st → judge (bytes_due n l (At st)) r ≡ done w d → Says (onto l st d)
    unfolding onto
    onto-says Count w d e v = clearing-says (arg d 1)
    onto-says (Look k) w d e v = record { due_then = e; warned = w; data_part = d; verdict = v; told = refl }
    onto-says (Remove k st) w d e v = clearing-says k
    onto-says (Create i) w d e v = tt
    onto-says (Store i) w d e v = tt
    onto-says (Read i) w d e v = go (same (drop 3 d) (wanted l i).bytes) (same_eq (drop 3 d) (wanted l i).bytes)
      where
        go : (q : Bool) → (T q → drop 3 d ≡ (wanted l i).bytes) → Says (pick q (locking l i) (Failed (Read i) Differs))
        go true s = locking_by l Says (λ j. tt) tt i (brings i d w e v (s tt))
        go false s = tt
    onto-says (Lock i) w d e v = making-says (i + 1)

    verdict-says : (st : Step) (v : Verdict) → now rs ≡ At st → judge (bytes_due n l (At st)) r ≡ v → Says (on_verdict l st v)
    unfolding on_verdict
    verdict-says st (refusal k) e q = tt
    verdict-says st (done w d) e q = onto-says st w d e q
    verdict-says st (failed w k) e q = tt

    -- a run that had ended says nothing new
    reply-says : (x : Standing) → now rs ≡ x → Says (after_reply n l x r)
    unfolding after_reply
    reply-says (At st) e = verdict-says st (judge (bytes_due n l (At st)) r) e refl
    reply-says Done e = tt
    reply-says (Failed st w) e = tt

    says : Says (now (r ∷ rs))
    says = rw (stands_after n l r rs) (reply-says (now rs) refl)

  none_passed : (i : ℕ) → i < passed (now []) → ⊥
  unfolding after_replies
  none_passed i h = not-suc-le-zero h

  brought : (rs : List (List ℕ)) (i : ℕ) → i < passed (now rs) → Brought n l rs i
  brought [] i h = absurd (none_passed i h)
  brought (r ∷ rs) i h = go (brought rs i) (next rs r (now rs) refl i (rw (stands_after n l r rs) at h))
    where
      go : (i < passed (now rs) → Brought n l rs i) → Brings n l rs r i ⊎ (i < passed (now rs)) → Brings n l rs r i ⊎ Brought n l rs i
      go old (inl b) = inl b
      go old (inr k) = inr (old k)

pub done-read-back : DoneReadBack
done-read-back n l rs e i h = brought n l rs i (rw e h)

pub read-before_deleted : ReadBeforeDeleted
read-before_deleted n l rs r k st e = rw e at (says n l rs r)

pub read-before-locked : ReadBeforeLocked
read-before-locked n l rs r i e = rw e at (says n l rs r)
