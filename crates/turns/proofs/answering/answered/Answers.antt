-- What is left to show of `turns::answering::answered`.
use Rattle.std.proofs.Common.{arith}
use Rattle.turns.proofs.Turning.{no_line, a-line}
use Rattle.turns.proofs.answering.answered.Goals as goal

pub returns-then-n-eq0 : goal.returns-then-n-eq0
returns-then-n-eq0 c = no_line _ _ _ _ _ c.reply_length-n.ensures c.if-n-eq0.true (omega (arith, c.requires.space))

pub returns : goal.returns
returns c = a-line _ _ _ _ _ c.reply_length-n.ensures _ _ c.if-n-eq0.false (rw c.reply_length-n.ensures c.requires.room) c.reply_line-used.ensures
