-- What is left to show of `board::limits::Board::power_on`.
use Rattle.board.proofs.Stepping.{no_line}
use Rattle.board.proofs.limits.Board.power_on.Goals as goal

pub returns : goal.returns
returns c = λ kept. no_line kept _ (c.power_on-state.ensures _) c.none-frame.ensures
