-- What is left to show of `quicksetter::starts::put_core`.
use Rattle.quicksetter.proofs.Starting.{core_made}
use Rattle.quicksetter.proofs.starts.put_core.Goals as goal

pub returns : goal.returns
returns c = core_made c.args.core.now c.requires.whole_core c.fill.ensures c.none.ensures c.put_board.ensures
