-- Where the next field leads: a property that the first request for it, done, a look and a lock have. Assumes nothing.
use Prim.Native.Nat.{ℕ, ◌+◌, ◌-◌}
use mathlib.Core.Bool.{Bool, true, false}
use lib.Dec.{eqb, ltb}
use lib.ListN.{length}
use Rattle.meaning.specs.Bytes.{pick}
use Rattle.meaning.specs.Fields.{writable}
use Rattle.programmer.specs.Wishes.{Wish, wanted}
use Rattle.programmer.specs.Steps.{making, clearing, locking}
use Rattle.programmer.specs.declared.step.Step.TheVariants.{Look, Create, Lock}
use Rattle.programmer.specs.declared.step.Standing.{Standing}
use Rattle.programmer.specs.declared.step.Standing.TheVariants.{At, Done}

module _ (l : Wish) (P : Standing → Type 0) (create : (i : ℕ) → P (At (Create i))) (done : P Done) where
  pub making_by : (i : ℕ) → P (making l i)
  unfolding making
  making_by i = go (ltb i (length l.fields))
    where
      go : (q : Bool) → P (pick q (At (Create i)) Done)
      go true = create i
      go false = done

  pub clearing_by : ((k : ℕ) → P (At (Look k))) → (k : ℕ) → P (clearing l k)
  unfolding clearing
  clearing_by look k = go (eqb k 0)
    where
      go : (q : Bool) → P (pick q (making l 0) (At (Look (k - 1))))
      go true = making_by 0
      go false = look (k - 1)

  pub locking_by : (i : ℕ) → P (At (Lock i)) → P (locking l i)
  unfolding locking
  locking_by i lock = go (writable (wanted l i).status)
    where
      go : (q : Bool) → P (pick q (making l (i + 1)) (At (Lock i)))
      go true = making_by (i + 1)
      go false = lock
