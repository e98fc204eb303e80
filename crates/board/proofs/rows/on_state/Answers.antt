-- What is left to show of `board::rows::on_state`.
use Rattle.std.proofs.Common.{arith}
use Rattle.board.proofs.Dispatch.{two, five, three, row_42, row_43, row_46, row_47, row_49, row_4f, row_50, row_52, row_53, row_55, row_56, last-alone, not_52}
use Rattle.board.proofs.rows.on_state.Goals as goal

pub returns-in-66 : goal.returns-in-66
returns-in-66 c = λ p m e x. row_42 p _ _ m _ c.in-66.is (c.read_position.ensures p _ m _ e)

pub set_position-requires : goal.set_position-requires
set_position-requires c = (c.requires.bits, five _ _ c.requires.fits c.in-67.is)

pub returns-in-67 : goal.returns-in-67
returns-in-67 c = λ p m e x. row_43 p _ _ m _ c.in-67.is (c.set_position.ensures p _ m _ e)

pub returns-in-70 : goal.returns-in-70
returns-in-70 c = λ p m e x. row_46 p _ _ m _ c.in-70.is (c.read_counter.ensures p _ m _)

pub returns-in-71 : goal.returns-in-71
returns-in-71 c = λ p m e x. row_47 p _ _ m _ c.in-71.is (c.step_counter.ensures p _ m _ _)

pub returns-in-73 : goal.returns-in-73
returns-in-73 c = λ p m e x. row_49 p _ _ m _ c.in-73.is (c.clear_counter.ensures p _ m _)

pub set_code-requires : goal.set_code-requires
set_code-requires c = (three _ _ c.requires.fits c.in-79.is, c.requires.room)

pub returns-in-79 : goal.returns-in-79
returns-in-79 c = λ p m e x. row_4f p _ _ m _ c.in-79.is (c.set_code.ensures p _ m)

pub returns-in-80 : goal.returns-in-80
returns-in-80 c = λ p m e x. row_50 p _ _ m _ c.in-80.is (c.read_fault.ensures p _ m _)

pub returns-in-82 : goal.returns-in-82
returns-in-82 c = λ p m e x. row_52 p _ _ m _ c.in-82.is (c.read_label.ensures p _ _ m _ x)

pub returns-in-83 : goal.returns-in-83
returns-in-83 c = λ p m e x. row_53 p _ _ m _ c.in-83.is (c.reset.ensures p _ m _ _)

pub set_address-requires : goal.set_address-requires
set_address-requires c = two _ _ c.requires.fits c.in-85.is

pub returns-in-85 : goal.returns-in-85
returns-in-85 c = λ p m e x. row_55 p _ _ m _ c.in-85.is (c.set_address.ensures p _ m _)

pub returns-in_default : goal.returns-in_default
returns-in_default c = λ p m e x.
    let label = last-alone _ _ c.requires.fits c.requires.alone (λ e. omega arith) (λ e. omega arith) (λ e. omega arith) (λ e. omega arith) (λ e. omega arith)
    (λ e. omega arith) (λ e. omega arith) (λ e. omega arith) (λ e. omega arith) in
    row_56 p _ _ m _ (not_52 _ label (λ e. omega arith)) (c.read_version.ensures p _ _ m _ x)
