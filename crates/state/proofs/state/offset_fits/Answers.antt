-- What is left to show of `state::state::offset_fits`.
use Rattle.std.proofs.Common.{arith, ◌∙◌}
use borrow.Author.Tests.{lt-ltb}
use Rattle.state.proofs.Turns.{all-below}
use Rattle.state.proofs.state.offset_fits.Goals as goal

pub returns-then-bits-gt32 : goal.returns-then-bits-gt32
returns-then-bits-gt32 c = lt-ltb _ _ c.if-bits-gt32.true ∙ all-below c.args.offset c.args.bits (omega arith) c.if-bits-gt32.true
