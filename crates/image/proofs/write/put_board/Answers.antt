-- What is left to show of `image::write::put_board`.
use Rattle.image.proofs.Parts.{puts_board}
use Rattle.image.proofs.write.put_board.Goals as goal

pub returns : goal.returns
returns c = puts_board _ _ _ c.requires.whole_core c.put_state.ensures c.put_frame.ensures
