-- What is left to show of `state::rows::set_position`.
use Rattle.meaning.specs.State.{code}
use Rattle.meaning.specs.Commands.{c43, worked, set_position, error}
use Rattle.state.specs.Effects.{effect_on, row_effect}
use Rattle.state.proofs.Answering.{refuses, accepts-bare, passed, wanted}
use Rattle.state.proofs.rows.set_position.Goals as goal

pub returns-in_err-check_unlocked : goal.returns-in_err-check_unlocked
unfolding worked set_position error
returns-in_err-check_unlocked c p l m w e = refuses c43 p _ l m _ w _ _ c.in_err-check_unlocked.ensures c.from_residual.ensures.1 (λ t. rw t)

pub returns-in_err-check_code : goal.returns-in_err-check_code
unfolding worked set_position error code
returns-in_err-check_code c p l m w e =
    refuses c43 p _ l m _ w _ _ c.in_err-check_code.ensures c.from_residual-in_err-check_code.ensures.1 (λ t. rw (passed _ _ c.in_ok-check_unlocked.ensures, t))

pub returns-in_err-check_position : goal.returns-in_err-check_position
unfolding worked set_position error code
returns-in_err-check_position c p l m w e =
    refuses c43 p _ l m _ w _ _ c.in_err-check_position.ensures c.from_residual-in_err-check_position.ensures.1
    (λ t. rw (passed _ _ c.in_ok-check_unlocked.ensures, passed _ _ c.in_ok-check_code.ensures, wanted c.args.request.now c.requires.1, e, ← c.from_be_bytes-wanted.ensures, t))

pub returns : goal.returns
unfolding worked set_position error code effect_on row_effect
returns c p l m w e =
    let given = wanted c.args.request.now c.requires.1 in
    let told = c.from_be_bytes-wanted.ensures in
    let turned = c.offset_for-offset.ensures p l e in
    accepts-bare c43 p _ l m _ w c.accepted.ensures
    (rw (given, ← told, ← turned, passed _ _ c.in_ok-check_unlocked.ensures, passed _ _ c.in_ok-check_code.ensures, e, passed _ _ c.in_ok-check_position.ensures))
    (rw (given, ← told, ← turned)) tt
