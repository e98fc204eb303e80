-- What is left to show of `state::rows::read_position`.
use Rattle.std.proofs.Common.{refl}
use Rattle.meaning.specs.Bytes.{bytes4}
use Rattle.meaning.specs.State.{position}
use Rattle.meaning.specs.Commands.{c42, worked, read_position, error}
use Rattle.state.specs.State.{state_with}
use Rattle.state.specs.Effects.{effect_on, row_effect}
use Rattle.state.proofs.Answering.{refuses, accepts, passed}
use Rattle.state.proofs.rows.read_position.Goals as goal

pub returns-in_err-check_unlocked : goal.returns-in_err-check_unlocked
unfolding worked read_position error
returns-in_err-check_unlocked c p l m d e = refuses c42 p _ l m d _ _ _ c.in_err-check_unlocked.ensures c.from_residual.ensures.1 (λ t. rw t)

pub returns : goal.returns
unfolding worked read_position error bytes4 effect_on row_effect
returns c p l m d e =
    accepts c42 p _ l m d _ (bytes4 (position p (state_with c.args.state l))) c.accepted.ensures (rw (passed _ _ c.in_ok-check_unlocked.ensures)) refl tt refl
    (rw (c.put_data.ensures, c.to_be_bytes.ensures, c.position.ensures p l e))
