-- What is left to show of `state::rows::offset_for`.
use Rattle.meaning.specs.State.{offset_for}
use Rattle.state.proofs.rows.offset_for.Goals as goal

pub returns : goal.returns
unfolding offset_for
returns c p l e = rw (c.from.ensures, c.from-2.ensures, c.size-size.ensures, e)
