-- What is left to show of `passes::passes::finish`.
use Rattle.std.proofs.Common.{sym, arith}
use borrow.Author.Tests.{true-eqb, false-eqb}
use Rattle.tape.proofs.Texts.{printed_as}
use Rattle.passes.proofs.Closings.{no_text, none_left, was_ended, cut_off}
use Rattle.passes.proofs.passes.finish.Goals as goal

pub returns-then-is_empty : goal.returns-then-is_empty
returns-then-is_empty c =
    λ kept m. no_text _ _ (none_left c.args.session.phase kept m c.args.session.place c.args.rest.now (true-eqb _ _ c.if-is_empty.ensures)) (omega (arith, c.requires))

pub returns-in-Ended : goal.returns-in-Ended
returns-in-Ended c = λ kept m. no_text _ _ (was_ended c.args.session.phase kept m c.args.session.place c.args.rest.now _ c.in-Ended.is) (omega (arith, c.requires))

pub returns : goal.returns
returns c =
    λ kept m. printed_as (sym (cut_off c.args.session.phase kept m c.args.session.place c.args.rest.now c.in_default.not-Ended (false-eqb _ _ c.if-is_empty.ensures))) c.bad_line.ensures
