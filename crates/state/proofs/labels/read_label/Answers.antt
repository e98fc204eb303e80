-- What is left to show of `state::labels::read_label`.
use Rattle.std.proofs.Common.{refl, arith}
use Rattle.meaning.specs.Bytes.{part}
use Rattle.meaning.specs.Commands.{c52, read_label, worked}
use Rattle.state.specs.Effects.{row_effect}
use Rattle.state.proofs.Ways.{told-label}
use Rattle.state.proofs.labels.read_label.Goals as goal

pub returns : goal.returns
unfolding worked read_label row_effect part
returns c p s l m d e = told-label c52 p s l m d _ 0 4 refl refl (rw e c.requires.0) (omega arith) c.accepted.ensures (rw e c.put_data.ensures)
