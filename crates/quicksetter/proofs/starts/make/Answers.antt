-- What is left to show of `quicksetter::starts::make`.
use Rattle.quicksetter.proofs.Starting.{made}
use Rattle.quicksetter.proofs.starts.make.Goals as goal

pub returns : goal.returns
returns c = made _ _ c.args.image.now c.requires.possible_plate c.requires.whole_image c.put_head.ensures c.put_core.ensures
