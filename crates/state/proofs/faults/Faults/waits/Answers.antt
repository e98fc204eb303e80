-- What is left to show of `state::faults::Faults::waits`.
use borrow.Author.Tests.{eq-eqb, ne_eqb}
use Rattle.state.proofs.Places.{some_wait}
use Rattle.state.proofs.faults.Faults.waits.Goals as goal

pub returns-then-self-ne0 : goal.returns-then-self-ne0
returns-then-self-ne0 c = rw (some_wait c.args.self, ne_eqb _ _ c.if-self-ne0.true)

pub returns-else-self-ne0 : goal.returns-else-self-ne0
returns-else-self-ne0 c = rw (some_wait c.args.self, eq-eqb _ _ c.if-self-ne0.false)
