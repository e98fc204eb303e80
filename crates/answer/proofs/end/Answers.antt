-- What is left to show of `answer::end`: what is printed lies in the output.
use Rattle.std.proofs.Common.{[], sym, arith}
use lib.Seq.{length-take-le}
use Rattle.tape.proofs.Texts.{same_size}
use Rattle.answer.proofs.end.Goals as goal

pub slice_bounds-flush-end-2 : goal.slice_bounds-flush-end-2
slice_bounds-flush-end-2 c = let p = c.finish-last.ensures [] [] in omega (arith, p.within, same_size p)

pub slice_bounds-flush-end-3 : goal.slice_bounds-flush-end-3
slice_bounds-flush-end-3 c = let p = c.finish-last.ensures [] [] in sym (length-take-le _ _ (omega (arith, p.within, same_size p)))
