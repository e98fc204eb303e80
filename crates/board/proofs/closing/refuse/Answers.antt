-- What is left to show of `board::closing::refuse`.
use borrow.Author.Tests.{eq-eqb, ne_eqb}
use Rattle.board.proofs.Sending.{fault-sent, fault-silent}
use Rattle.board.proofs.closing.refuse.Goals as goal

pub returns-then-code-eq0 : goal.returns-then-code-eq0
returns-then-code-eq0 c = fault-silent _ _ (eq-eqb _ _ c.if-code-eq0.true)

pub returns : goal.returns
returns c = fault-sent _ _ (ne_eqb _ _ c.if-code-eq0.false) c.reply_from.ensures
