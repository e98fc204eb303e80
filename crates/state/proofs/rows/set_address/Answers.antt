-- What is left to show of `state::rows::set_address`.
use Rattle.std.proofs.Common.{refl, arith}
use Rattle.meaning.specs.State.{code}
use Rattle.meaning.specs.Commands.{c55, worked, set_address, error}
use Rattle.state.specs.Effects.{effect_on, row_effect}
use Rattle.state.proofs.Answering.{refuses, accepts-bare, passed}
use Rattle.state.proofs.Ways.{board_range}
use Rattle.state.proofs.rows.set_address.Goals as goal

pub returns-in_err-check_code : goal.returns-in_err-check_code
unfolding worked set_address error code
returns-in_err-check_code c p l m w = refuses c55 p _ l m _ w _ _ c.in_err-check_code.ensures c.from_residual.ensures.1 (λ t. rw t)

pub returns-in_err-check_address : goal.returns-in_err-check_address
unfolding worked set_address error code
returns-in_err-check_address c p l m w =
    refuses c55 p _ l m _ w _ _ c.in_err-check_address.ensures c.from_residual-in_err-check_address.ensures.1 (λ t. rw (passed _ _ c.in_ok-check_code.ensures, t))

pub overflow_sub-byte : goal.overflow_sub-byte
overflow_sub-byte c = (board_range _ c.in_ok-check_address.ensures).0

pub returns : goal.returns
unfolding worked set_address error code effect_on row_effect
returns c p l m w =
    accepts-bare c55 p _ l m _ w c.accepted.ensures (rw (passed _ _ c.in_ok-check_code.ensures, passed _ _ c.in_ok-check_address.ensures)) refl
    (omega (arith, (board_range _ c.in_ok-check_address.ensures).1))
