-- What is left to show of `passes::passes::taken_in`.
use Rattle.turns.proofs.Turning.{quiet-character, quiet-poll}
use Rattle.passes.proofs.passes.taken_in.Goals as goal

pub returns-in_default : goal.returns-in_default
returns-in_default c = quiet-poll c.args.plate c.args.board c.args.kept.now c.args.event c.requires.quick c.in_default.not-Character c.requires.fits

pub returns : goal.returns
returns c =
    quiet-character c.args.plate c.args.board c.args.kept.now c.args.event _ _ _ c.requires.quick c.in-Character.is c.with_character.ensures
