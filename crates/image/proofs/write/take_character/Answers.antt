-- What is left to show of `image::write::take_character`.
use Rattle.std.proofs.Common.{arith}
use Rattle.image.proofs.Round.{good}
use Rattle.image.proofs.Going.{open_taken, first_taken}
use Rattle.image.proofs.write.take_character.Goals as goal

pub bounds-core-21 : goal.bounds-core-21
bounds-core-21 c = omega (arith, (good c.args.core.now c.requires).all)

pub returns-then-core-eq1 : goal.returns-then-core-eq1
returns-then-core-eq1 c = open_taken _ _ _ _ _ c.if-core-eq1.true c.go_on.ensures

pub begin-requires : goal.begin-requires
begin-requires c = (good c.args.core.now c.requires).all

pub returns : goal.returns
returns c = first_taken _ _ _ _ _ c.if-core-eq1.false c.begin.ensures
