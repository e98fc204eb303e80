-- What is left to show of `programmer::turn::on_verdict`: each verdict of the code is one of the meaning's.
use mathlib.Core.Logic.{inl, inr}
use Rattle.programmer.proofs.Hearing.{told-good, told-code, told-unfit}
use Rattle.programmer.proofs.turn.on_verdict.Goals as goal

pub returns-in-Err : goal.returns-in-Err
returns-in-Err c = λ v e a. told-unfit _ _ _ _ _ c.in-Err.is c.number.ensures.0 v e

pub returns-in-Done : goal.returns-in-Done
returns-in-Done c = λ v e a. told-good _ _ _ _ c.in-Ok.is c.in-Done.is _ v _ e a c.onto.ensures

pub returns-in-Error : goal.returns-in-Error
returns-in-Error c = λ v e a. told-code _ _ _ _ _ c.in-Ok.is (inl c.in-Error.is) v e

pub returns-in-ErrorWithWarning : goal.returns-in-ErrorWithWarning
returns-in-ErrorWithWarning c = λ v e a. told-code _ _ _ _ _ c.in-Ok.is (inr c.in-ErrorWithWarning.is) v e
