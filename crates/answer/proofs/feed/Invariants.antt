-- Each pass leaves the buffers ready for the next.
use Rattle.answer.specs.Program.{Leaves}
use Rattle.answer.proofs.feed.Given as goal

abbrev pub invariant-passes : goal.invariant-passes
invariant-passes l = Leaves (record { session = l.session; at = l.at; used = l.used }) l.window l.kept l.memory l.reply l.out
