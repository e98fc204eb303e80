-- What is left to show of `state::faults::Faults::queued`.
use Rattle.state.proofs.Places.{joins_so}
use Rattle.state.proofs.faults.Faults.queued.Goals as goal

pub returns : goal.returns
returns c = rw (c.noted.ensures, c.place_for.ensures) (joins_so _ _ c.requires)
