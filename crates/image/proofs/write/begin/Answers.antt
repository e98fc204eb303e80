-- What is left to show of `image::write::begin`.
use Rattle.image.proofs.Going.{begins}
use Rattle.image.proofs.write.begin.Goals as goal

pub returns : goal.returns
returns c = begins c.args.core.now _ _ _ c.requires c.none.ensures c.with_character-first.ensures c.put_frame.ensures
