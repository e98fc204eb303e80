-- What is left to show of `image::write::put_stamp`.
use Rattle.std.proofs.Common.{refl, arith}
use Rattle.image.proofs.Standing.{part_filled}
use Rattle.image.proofs.write.put_stamp.Goals as goal

pub returns : goal.returns
returns c = part_filled c.args.core.now 23 6 _ (omega (arith, c.requires)) refl (rw c.bytes_of.ensures at c.fill.ensures)
