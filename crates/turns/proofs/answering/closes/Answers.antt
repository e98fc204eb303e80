-- What is left to show of `turns::answering::closes`.
use Rattle.std.proofs.Common.{sym, ◌∙◌}
use Rattle.meaning.proofs.Gaps.{over-told}
use Rattle.turns.proofs.answering.closes.Goals as goal

pub returns : goal.returns
returns c = λ kept. c.is_over.ensures ∙ sym (over-told _ _ _ (c.remaining.ensures kept _))
