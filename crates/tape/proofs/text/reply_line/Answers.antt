-- What is left to show of `tape::text::reply_line`.
use Rattle.std.proofs.Common.{arith}
use Rattle.tape.proofs.Decimal.{tick_digits}
use Rattle.tape.proofs.Outputs.{length_hex}
use Rattle.tape.proofs.Texts.{same_size, line-printed}
use Rattle.tape.proofs.text.reply_line.Goals as goal

pub decimal-from-requires : goal.decimal-from-requires
decimal-from-requires c = let t = c.from.ensures in rw t (omega (arith, tick_digits c.args.tick (omega arith)))

pub hex-end-requires : goal.hex-end-requires
hex-end-requires c = let p = rw c.from.ensures at c.decimal-from.ensures in omega (arith, tick_digits c.args.tick (omega arith), p.next, same_size p)

pub bounds-out-end : goal.bounds-out-end
bounds-out-end c =
    let p = rw c.from.ensures at c.decimal-from.ensures in
    omega (arith, tick_digits c.args.tick (omega arith), length_hex c.args.reply.now, p.next, same_size p, c.hex-end.ensures.next, same_size c.hex-end.ensures)

pub returns : goal.returns
returns c =
    let p = rw c.from.ensures at c.decimal-from.ensures in
    line-printed _ _ p c.hex-end.ensures (omega (arith, tick_digits c.args.tick (omega arith), length_hex c.args.reply.now, p.next, same_size p, c.hex-end.ensures.next))
