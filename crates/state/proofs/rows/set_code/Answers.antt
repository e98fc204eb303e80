-- What is left to show of `state::rows::set_code`.
use Rattle.std.proofs.Common.{refl, arith, ◌∷◌, []}
use borrow.Author.Tests.{ltb-false}
use Rattle.meaning.specs.State.{code}
use Rattle.meaning.specs.Commands.{c4f, worked, set_code, error}
use Rattle.state.specs.Effects.{effect_on, row_effect}
use Rattle.meaning.proofs.Puts.{put_one}
use Rattle.state.proofs.Answering.{refuses, accepts, passed}
use Rattle.state.proofs.rows.set_code.Goals as goal

pub returns-in_err-check_number : goal.returns-in_err-check_number
unfolding worked set_code error
returns-in_err-check_number c p l m = refuses c4f p _ l m _ _ _ _ c.in_err-check_number.ensures c.from_residual.ensures.1 (λ t. rw t)

pub returns-in_err-check_code : goal.returns-in_err-check_code
unfolding worked set_code error code
returns-in_err-check_code c p l m =
    refuses c4f p _ l m _ _ _ _ c.in_err-check_code.ensures c.from_residual-in_err-check_code.ensures.1 (λ t. rw (passed _ _ c.in_ok-check_number.ensures, ← c.from-number.ensures, t))

pub returns : goal.returns
unfolding worked set_code error code effect_on row_effect
returns c p l m =
    let few = passed _ _ c.in_ok-check_number.ensures in
    let told = c.from-number.ensures in
    accepts c4f p _ l m _ _ (_ ∷ []) c.accepted.ensures (rw (few, ← told, passed _ _ c.in_ok-check_code.ensures)) (rw told) (omega (arith, told, ltb-false 3 _ few)) refl
    (put_one _ 2 _ (omega (arith, c.requires.1)))
