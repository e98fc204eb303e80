-- What is left to show of `fields::access::store_own`.
use Rattle.std.proofs.Common.{◌+◌, refl, arith}
use Rattle.fields.proofs.Accesses.{store_past, store_within, cells_told}
use Rattle.fields.proofs.Rows.{works-refuse, works-accept}
use Rattle.fields.proofs.access.store_own.Goals as goal

pub returns-then-own-end : goal.returns-then-own-end
returns-then-own-end c s = works-refuse (store_past c.args.own.now c.args.request.now s (omega arith))

pub returns : goal.returns
returns c s =
    rw (cells_told c.args.own.now c.args.request.now _ c.from-from.result (c.from-from.result + c.from.result) (omega arith) c.from-from.ensures (omega arith) c.set_cells.ensures)
    (works-accept (store_within c.args.own.now c.args.request.now s (omega arith)) (record { answer = refl; room = c.repeat_three.ensures }))
