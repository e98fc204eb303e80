-- The buffers are ready at every turn.
use Rattle.std.proofs.Common.{length, [], ◌≤◌}
use Rattle.passes.specs.Sessions.{ReadyForPass}
use Rattle.answer.proofs.run.Given as goal

abbrev pub invariant-windows : goal.invariant-windows
invariant-windows l = record {
  within : l.have ≤ length l.window;
  ready : ReadyForPass l.session [] l.kept l.memory l.reply l.out l.used;
}
