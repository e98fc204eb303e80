-- What is left to show of `wire::framing::seal`.
use Rattle.std.proofs.Common.{arith}
use Rattle.wire.proofs.Laws.{sealed_round}
use Rattle.wire.proofs.framing.seal.Goals as goal

pub returns : goal.returns
returns c = rw c.xor_from-sum.ensures (sealed_round c.args.address c.args.command c.args.n c.args.buffer.now (omega arith))
