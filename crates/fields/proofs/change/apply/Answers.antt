-- What is left to show of `fields::change::apply`.
use Rattle.std.proofs.Common.{◌≡◌, ◌+◌, ◌-◌, arith}
use borrow.Rule.Slice.PartMut.{put_mid}
use Rattle.meaning.specs.Bytes.{arg}
use Rattle.meaning.specs.Fields.{clear}
use Rattle.fields.specs.Shape.{stored_as}
use Rattle.fields.proofs.Shapes.{part_cleared, status-put}
use Rattle.fields.proofs.change.apply.Goals as goal

pub returns : goal.returns
returns c =
    let m = c.args.memory.now in
    let run = c.args.change in
    let from = c.bytes_of-from.result in
    let to = c.bytes_of-to.result in
    let at = c.bytes_of.result + c.from.result in
    let cleared : put_mid from (to - from) m c.clear.new.part ≡ clear m run.from (run.to - run.from) =
    part_cleared m run.from (run.to - run.from) from to c.clear.new.part c.bytes_of-from.ensures
    (omega (arith, c.bytes_of-to.ensures)) (omega (arith, c.bytes_of-to.ensures)) c.clear.ensures in
    rw (c.set_cells.ensures, cleared, c.stored_as.ensures)
    (status-put c.args.total (clear m run.from (run.to - run.from)) (arg c.args.request.now 0) (stored_as (arg c.args.request.now 1)) at (omega (arith, c.bytes_of.ensures, c.from.ensures)))
