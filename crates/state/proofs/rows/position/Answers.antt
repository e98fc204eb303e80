-- What is left to show of `state::rows::position`.
use Rattle.meaning.specs.State.{position}
use Rattle.state.proofs.rows.position.Goals as goal

pub returns : goal.returns
unfolding position
returns c p l e = rw (c.from.ensures, c.from-2.ensures, c.size-size.ensures, e)
