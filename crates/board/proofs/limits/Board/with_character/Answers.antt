-- What is left to show of `board::limits::Board::with_character`.
use Rattle.std.proofs.Common.{◌∙◌}
use Rattle.board.proofs.Quickening.{fits_told, takes_in}
use Rattle.board.proofs.limits.Board.with_character.Goals as goal

pub with_character-frame-requires : goal.with_character-frame-requires
with_character-frame-requires c = fits_told _ _ c.requires

pub returns : goal.returns
returns c =
    takes_in _ _ _ _ _ c.with_character-frame.ensures (c.with_character-frame.auto.kept ∙ (fits_told _ _ c.requires).all)
