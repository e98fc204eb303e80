-- What is left to show of `turns::reading::hear`.
use Rattle.std.proofs.Common.{ap}
use Rattle.tape.specs.Kinds.{Said}
use Rattle.turns.specs.Hearing.{tells, readout_by}
use Rattle.turns.proofs.reading.hear.Goals as goal

pub returns-in-Ok : goal.returns-in-Ok
unfolding readout_by
returns-in-Ok c = rw (← c.read.ensures.value, c.in-Ok.is) (ap (λ (x : Said). tells x c.in-Ok.record.next.at) c.event_of.ensures)

pub returns-in-Err-Bad : goal.returns-in-Err-Bad
unfolding readout_by
returns-in-Err-Bad c = rw (← c.read.ensures.value, c.in-Err-Bad.is, c.in-Err-Bad.field-0-is)

pub returns-in-Err-More : goal.returns-in-Err-More
unfolding readout_by
returns-in-Err-More c = rw (← c.read.ensures.value, c.in-Err-More.is, c.in-Err-More.field-0-is)
