-- What is left to show of `state::state::State::after`.
use Rattle.state.specs.Effects.{effect_on}
use Rattle.state.proofs.state.State.after.Goals as goal

pub returns-in-OldestRead : goal.returns-in-OldestRead
unfolding effect_on
returns-in-OldestRead c l = rw (c.in-OldestRead.is, (c.read.ensures l).rest)
