-- What is left to show of `turns::answering::turn`: what the board's call brought is printed.
use Rattle.turns.proofs.Turning.{fitting, turns_answered, turns_bad}
use Rattle.turns.proofs.answering.turn.Goals as goal

pub returns-in_default : goal.returns-in_default
returns-in_default c =
    turns_bad _ _ _ _ _ _ _ _ _ _ _ _ _ _ c.requires.within_limits c.in_default.ensures c.bad_line-used.ensures

pub answered-requires : goal.answered-requires
answered-requires c = fitting _ _ _ _ _ _ _ _ _ _ c.requires.within_limits c.in-Some.ensures _ _ c.requires.line_fits

pub returns : goal.returns
returns c = turns_answered _ _ _ _ _ _ _ _ _ _ c.requires.within_limits c.in-Some.ensures _ c.answered.ensures
