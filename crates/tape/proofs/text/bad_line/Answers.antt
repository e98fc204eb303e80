-- What is left to show of `tape::text::bad_line`.
use Rattle.std.proofs.Common.{arith}
use Rattle.tape.proofs.Decimal.{few_digits}
use Rattle.tape.proofs.Texts.{same_size, bad-printed}
use Rattle.tape.proofs.text.bad_line.Goals as goal

pub returns : goal.returns
returns c = bad-printed _ c.copy-from.ensures c.decimal-end.ensures (omega (arith, few_digits c.args.place (omega arith), c.copy-from.ensures.next, same_size c.copy-from.ensures, c.decimal-end.ensures.next))

pub decimal-end-requires : goal.decimal-end-requires
decimal-end-requires c = omega (arith, few_digits c.args.place (omega arith), c.copy-from.ensures.next, same_size c.copy-from.ensures)

pub bounds-out-end : goal.bounds-out-end
bounds-out-end c = omega (arith, few_digits c.args.place (omega arith), c.copy-from.ensures.next, same_size c.copy-from.ensures, c.decimal-end.ensures.next, same_size c.decimal-end.ensures)
