-- What is left to show of `board::limits::Board::read`.
use Rattle.meaning.specs.State.{none}
use Rattle.line.specs.Line.{line_of}
use Rattle.board.proofs.limits.Board.read.Goals as goal

pub returns : goal.returns
returns c = record {
  code = λ kept. (c.read-oldest.ensures none).oldest;
  board = λ kept. (c.read-oldest.ensures (line_of c.args.self.frame kept)).rest;
}
