-- What is left to show of `image::write::go_on`: the places that are written are within the core, and with room the byte is kept, else the frame is longer.
use Rattle.std.proofs.Common.{◌∙◌, arith}
use lib.ListN.{length-set}
use Rattle.image.proofs.Standing.{flag_of}
use Rattle.image.proofs.Round.{good}
use Rattle.image.proofs.Going.{goes_on, goes-past, stamped_length}
use Rattle.image.proofs.write.go_on.Goals as goal

pub bounds-core-29 : goal.bounds-core-29
bounds-core-29 c = omega (arith, (good c.args.core.now c.requires.bytes).all)

pub bounds-core-28 : goal.bounds-core-28
bounds-core-28 c = omega (arith, (good c.args.core.now c.requires.bytes).all)

pub bounds-core-23 : goal.bounds-core-23
bounds-core-23 c = omega (arith, (good c.args.core.now c.requires.bytes).all)

pub put_stamp-requires : goal.put_stamp-requires
put_stamp-requires c = (good c.args.core.now c.requires.bytes).all

pub bounds-core-count : goal.bounds-core-count
bounds-core-count c =
    omega (arith, c.if-count.true, stamped_length c.args.core.now c.requires _ _ _ (omega arith) (c.from.ensures ∙ flag_of _) c.put_stamp.ensures)

pub bounds-core-29-then-count : goal.bounds-core-29-then-count
bounds-core-29-then-count c =
    simp length-set (omega (arith, stamped_length c.args.core.now c.requires _ _ _ (omega arith) (c.from.ensures ∙ flag_of _) c.put_stamp.ensures))

pub returns-then-count : goal.returns-then-count
returns-then-count c = goes_on c.args.core.now c.requires _ _ _ (omega arith) (c.from.ensures ∙ flag_of _) c.put_stamp.ensures c.if-count.true

pub returns : goal.returns
returns c = goes-past c.args.core.now c.requires _ _ _ (omega arith) (c.from.ensures ∙ flag_of _) c.put_stamp.ensures c.if-count.false
