-- The code's fault queue as that of the meaning (01, "Faults"). Assumes nothing.
use Rattle.std.specs.Prelude.{ℕ, ◌≡◌, false, List, [], ◌∷◌, eqb, drop}
use Rattle.meaning.specs.Bytes.{pick, arg}
use Rattle.meaning.specs.State.{State, with_queue, with_lock}
use Rattle.state.specs.declared.faults.Faults.{Faults}
use Rattle.state.specs.declared.faults.Oldest.{Oldest}

-- a place before those that wait: at the end 00h is an empty place
unfoldable pub waiting : ℕ → List ℕ → List ℕ
waiting c [] = pick (eqb c 0) [] (c ∷ [])
waiting c (x ∷ q) = c ∷ x ∷ q

-- the four places, oldest first, without the empty ones at the end
unfoldable pub queue_of : Faults → List ℕ
queue_of f = waiting f.first (waiting f.second (waiting f.third (waiting f.fourth [])))

abbrev pub no_faults : Faults
no_faults = record { first = 0; second = 0; third = 0; fourth = 0; locked = false }

-- a state whose waiting codes and lock are those of f
unfoldable pub holding : State → Faults → State
holding s f = with_lock (with_queue s (queue_of f)) f.locked

-- the queue is q, and the lock is as it was
pub record Queues (f : Faults) (q : List ℕ) (r : Faults) : Type 0 where
  pub queue : queue_of r ≡ q
  pub lock : r.locked ≡ f.locked

pub record Reads (f : Faults) (r : Oldest Faults) : Type 0 where
  pub oldest : r.code ≡ arg (queue_of f) 0
  pub rest : Queues f (drop 1 (queue_of f)) r.rest
