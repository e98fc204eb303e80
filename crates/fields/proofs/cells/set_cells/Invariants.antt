-- The cells passed hold their bytes, the others what they held.
use Rattle.fields.proofs.Over.{Over}
use Rattle.fields.proofs.cells.set_cells.Given as goal

abbrev pub invariant-loop-i : goal.invariant-loop-i
invariant-loop-i l = Over l.wanted l.initial.cells l.cells l.i
