-- What is left to show of `state::faults::Faults::read`.
use Rattle.std.proofs.Common.{refl}
use Rattle.state.proofs.Places.{oldest_first}
use Rattle.state.proofs.faults.Faults.read.Goals as goal

pub returns : goal.returns
returns c = oldest_first _ _ refl refl
