-- What is left to show of `quicksetter::notes::power_on`.
use Rattle.quicksetter.proofs.Noting.{drops_all}
use Rattle.quicksetter.proofs.notes.power_on.Goals as goal

pub returns : goal.returns
returns c = drops_all c.args.core.now c.requires c.none.ensures c.none-2.ensures c.put_faults.ensures c.put_frame.ensures
