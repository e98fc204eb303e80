-- What is left to show of `state::rows::reset`.
use Rattle.std.proofs.Common.{refl}
use Rattle.meaning.specs.Commands.{worked, reset}
use Rattle.state.specs.Effects.{effect_on, row_effect}
use Rattle.state.proofs.rows.reset.Goals as goal

pub returns : goal.returns
unfolding worked reset effect_on row_effect
returns c p l m d w = record { answer = refl; effect = refl; placed = tt; state = refl; room = refl }
