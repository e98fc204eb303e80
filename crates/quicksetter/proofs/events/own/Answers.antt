-- What is left to show of `quicksetter::events::own`.
use Rattle.std.proofs.Common.{refl}
use Rattle.meaning.specs.State.{none}
use Rattle.state.specs.State.{state_with}
use Rattle.image.specs.Image.{state_in}
use Rattle.quicksetter.proofs.events.own.Goals as goal

pub own_byte-requires : goal.own_byte-requires
unfolding state_in
own_byte-requires c = c.requires.1

pub returns : goal.returns
unfolding state_in
returns c = c.own_byte.ensures (state_with (state_in c.args.core.now) none) refl
