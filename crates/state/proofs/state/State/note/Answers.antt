-- What is left to show of `state::state::State::note`.
use Rattle.meaning.specs.State.{with_lock, with_queue}
use Rattle.state.specs.Queue.{holding}
use Rattle.state.specs.State.{state_with}
use Rattle.state.proofs.state.State.note.Goals as goal

pub returns : goal.returns
unfolding holding with_lock with_queue
returns c l = c.note.ensures (state_with c.args.self l)
