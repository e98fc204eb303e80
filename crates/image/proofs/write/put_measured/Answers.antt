-- What is left to show of `image::write::put_measured`.
use Rattle.std.proofs.Common.{arith, rules}
use Rattle.image.proofs.Placing.{with_measured_lem}
use Rattle.image.proofs.write.put_measured.Goals as goal

pub returns : goal.returns
returns c = with_measured_lem c.args.core.now c.requires (λ i. search rules) _ (omega arith) c.put_number.ensures
