-- What is left to show of `state::rows::read_counter`.
use Rattle.std.proofs.Common.{refl}
use Rattle.meaning.specs.Bytes.{bytes3}
use Rattle.meaning.specs.Commands.{c46, worked, read_counter}
use Rattle.state.specs.Effects.{effect_on, row_effect}
use Rattle.state.proofs.Answering.{accepts}
use Rattle.state.proofs.rows.read_counter.Goals as goal

pub returns : goal.returns
unfolding worked read_counter bytes3 effect_on row_effect
returns c p l m d = accepts c46 p _ l m d _ (bytes3 _) c.accepted.ensures refl refl tt refl (rw (c.put_data.ensures, c.to_be_bytes.ensures))
