-- What is left to show of `state::rows::read_fault`.
use Rattle.std.proofs.Common.{refl, arith, ◌∷◌, []}
use Rattle.meaning.specs.Commands.{c50, worked, read_fault}
use Rattle.state.specs.Effects.{effect_on, row_effect}
use Rattle.meaning.proofs.Puts.{put_one}
use Rattle.state.proofs.Answering.{accepts}
use Rattle.state.proofs.rows.read_fault.Goals as goal

pub returns : goal.returns
unfolding worked read_fault effect_on row_effect
returns c p l m d =
    accepts c50 p _ l m d _ (c.read-oldest.result.code ∷ []) c.accepted.ensures (rw (← (c.read-oldest.ensures l).oldest)) refl tt refl (put_one _ 2 _ (omega (arith, c.requires)))
