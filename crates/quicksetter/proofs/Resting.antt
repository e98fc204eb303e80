-- What lasted of a board that was off: the state after power-on, but for the measured position. Assumes nothing.
use Prim.Native.Nat.{ℕ, ◌<◌}
use native.Mathlib.Omega.{arith}
use mathlib.Core.Path.{◌≡◌, refl}
use mathlib.Core.List.{List}
use lib.Seq.{get_or-take}
use Rattle.meaning.specs.Bytes.{arg}
use Rattle.meaning.specs.State as meaning
use Rattle.meaning.specs.State.{powered_on, with_measured, with_queue, with_lock, with_line}
use Rattle.state.specs.Queue.{queue_of, waiting}
use Rattle.image.specs.Image.{core_in, state_in, rested_in}
use Rattle.image.proofs.Parts.{front-part}
use Rattle.quicksetter.specs.Calls.{state_held, lasting_of, rested}

pub measured_again : (s : meaning.State) (a b : ℕ) → with_measured (with_measured s a) b ≡ with_measured s b
unfolding with_measured
measured_again s a b = refl

-- the lasting bytes are the core's first twelve
module _ (img : List ℕ) where
  front : (i : ℕ) → i < 12 → arg (lasting_of img) i ≡ arg (core_in img) i
  front i h = get_or-take 12 (core_in img) i 0 h

  pub rested_as : rested (lasting_of img) ≡ with_measured (powered_on (state_held img)) 0
  unfolding rested_in state_in queue_of waiting with_measured powered_on with_queue with_lock with_line
  rested_as =
      rw (
        front-part 12 4 3 (core_in img) (omega arith),
        front-part 12 8 4 (core_in img) (omega arith),
        front 0 (omega arith),
        front 1 (omega arith),
        front 2 (omega arith),
        front 3 (omega arith),
        front 7 (omega arith),
      )
