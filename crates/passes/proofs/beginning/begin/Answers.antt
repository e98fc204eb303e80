-- What is left to show of `passes::beginning::begin`.
use Rattle.meaning.proofs.Plates.{low-address}
use Rattle.turns.proofs.Beginning.{opens_as}
use Rattle.passes.proofs.beginning.begin.Goals as goal

pub fresh-board-requires : goal.fresh-board-requires
fresh-board-requires c = low-address _ (opens_as _ _ _ c.open.ensures c.in-Ok.is).1.good

pub returns-in-Ok : goal.returns-in-Ok
returns-in-Ok c =
    let o = opens_as _ _ _ c.open.ensures c.in-Ok.is in
    record { roomy = c.if-space-lt-LONGEST_LINE.false; said = o.0; plate = o.1; board = λ kept. c.fresh-board.ensures kept _ }

pub returns-in-Err-More : goal.returns-in-Err-More
returns-in-Err-More c = (c.if-space-lt-LONGEST_LINE.false, opens_as _ _ _ c.open.ensures (rw c.in-Err-More.field-0-is at c.in-Err-More.is))

pub returns-in-Err-Bad : goal.returns-in-Err-Bad
returns-in-Err-Bad c = (c.if-space-lt-LONGEST_LINE.false, opens_as _ _ _ c.open.ensures (rw c.in-Err-Bad.field-0-is at c.in-Err-Bad.is))
