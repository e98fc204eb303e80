-- What is left to show of `image::write::state_row`.
use Rattle.std.proofs.Common.{◌∙◌}
use Rattle.image.proofs.Standing.{flag_of, state-row}
use Rattle.image.proofs.write.state_row.Goals as goal

pub returns : goal.returns
returns c = λ l. state-row c.args.state l (c.from.ensures ∙ flag_of _) c.bytes_of.ensures c.bytes_of-2.ensures c.bytes_of-3.ensures
