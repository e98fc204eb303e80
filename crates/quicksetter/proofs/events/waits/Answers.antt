-- What is left to show of `quicksetter::events::waits`.
use Rattle.quicksetter.proofs.Refusing.{word_waits}
use Rattle.quicksetter.proofs.events.waits.Goals as goal

pub returns : goal.returns
returns c = rw c.number_at.ensures (word_waits _)
