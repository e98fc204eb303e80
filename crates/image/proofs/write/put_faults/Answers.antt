-- What is left to show of `image::write::put_faults`.
use Rattle.std.proofs.Common.{◌∙◌, rules}
use Rattle.image.proofs.Standing.{flag_of}
use Rattle.image.proofs.Placing.{with_faults}
use Rattle.image.proofs.write.put_faults.Goals as goal

pub returns : goal.returns
returns c = with_faults c.args.core.now c.requires (λ i. search rules) c.args.faults (c.from.ensures ∙ flag_of _) c.fill.ensures
