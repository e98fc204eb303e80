-- What was read and printed so far, and what is left, come to the whole pass.
use Rattle.std.proofs.Common.{length, ◌-◌}
use Rattle.passes.proofs.Playing.{Going}
use Rattle.passes.proofs.passes.play.Given as goal

abbrev pub invariant-loop-out : goal.invariant-loop-out
invariant-loop-out l =
    Going l.plate l.place l.window l.fn.begun.from l.initial.kept l.initial.memory l.initial.reply l.initial.out l.start l.initial.board
    l.kept l.memory l.reply l.out l.board l.at l.used

abbrev pub decreases-loop-out : goal.decreases-loop-out
decreases-loop-out l = length l.window - l.at
