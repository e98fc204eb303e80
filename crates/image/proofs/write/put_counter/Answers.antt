-- What is left to show of `image::write::put_counter`.
use Rattle.std.proofs.Common.{rules}
use Rattle.image.proofs.Placing.{with_counter_lem}
use Rattle.image.proofs.write.put_counter.Goals as goal

pub returns : goal.returns
returns c = with_counter_lem c.args.core.now c.requires.holds_state (λ i. search rules) _ c.requires.counter_limit (rw c.bytes_of.ensures at c.fill.ensures)
