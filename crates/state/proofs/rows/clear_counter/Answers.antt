-- What is left to show of `state::rows::clear_counter`.
use Rattle.std.proofs.Common.{refl, arith}
use Rattle.meaning.specs.State.{code}
use Rattle.meaning.specs.Commands.{c49, worked, clear_counter, error}
use Rattle.state.specs.Effects.{effect_on, row_effect}
use Rattle.state.proofs.Answering.{refuses, accepts-bare, passed}
use Rattle.state.proofs.rows.clear_counter.Goals as goal

pub returns-in_err-check_code : goal.returns-in_err-check_code
unfolding worked clear_counter error code
returns-in_err-check_code c p l m w = refuses c49 p _ l m _ w _ _ c.in_err-check_code.ensures c.from_residual.ensures.1 (λ t. rw (← c.byte_at.ensures, t))

pub returns : goal.returns
unfolding worked clear_counter error code effect_on row_effect
returns c p l m w = accepts-bare c49 p _ l m _ w c.accepted.ensures (rw (← c.byte_at.ensures, passed _ _ c.in_ok-check_code.ensures)) refl (omega arith)
