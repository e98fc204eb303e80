-- What is left to show of `fields::cells::set_cells`.
use Rattle.std.proofs.Common.{refl, arith}
use Rattle.fields.proofs.Over.{over-turn, over-same}
use Rattle.fields.proofs.cells.set_cells.Goals.{then-cells-i, else-cells-i}
use Rattle.fields.proofs.cells.set_cells.Goals as goal

pub loop-i-preserved : goal.loop-i-preserved
loop-i-preserved c = elim c.if-cells-i.branch [
  | then-cells-i w ↦ rw w.cells-is (over-turn c.loop-i.invariant (omega arith) _ refl)
  | else-cells-i w ↦ rw w.cells-is (over-same c.loop-i.invariant (omega arith) w.if-cells-i.false)
]
