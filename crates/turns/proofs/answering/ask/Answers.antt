-- What is left to show of `turns::answering::ask`: each kind of record is its call of the board, and no call is refused.
use Rattle.std.proofs.Common.{⊎_elim}
use Rattle.turns.proofs.Turning.{is-taken, is-heard, character-called, poll-called, measured-called, fault-called, power_on-called, plate-uncalled, unfit-uncalled}
use Rattle.turns.proofs.answering.ask.Goals as goal

pub unwrap-stepped-requires : goal.unwrap-stepped-requires
unwrap-stepped-requires c = is-taken _ _ _ _ _ c.requires _ c.character.ensures

pub unwrap-stepped-requires-in-Poll : goal.unwrap-stepped-requires-in-Poll
unwrap-stepped-requires-in-Poll c = is-taken _ _ _ _ _ c.requires _ c.poll.ensures

pub unwrap-requires : goal.unwrap-requires
unwrap-requires c = is-heard _ (is-taken _ _ _ _ _ c.requires _ (c.measured.ensures _ _ _ c.requires.within.places))

pub unwrap-requires-in-Fault : goal.unwrap-requires-in-Fault
unwrap-requires-in-Fault c = is-heard _ (is-taken _ _ _ _ _ c.requires _ (c.fault.ensures _ _ _ c.requires.within.places))

pub unwrap-requires-in-PowerOn : goal.unwrap-requires-in-PowerOn
unwrap-requires-in-PowerOn c = is-heard _ (is-taken _ _ _ _ _ c.requires _ (c.power_on.ensures _ _ _ c.requires.within.places))

pub returns-in-Plate : goal.returns-in-Plate
returns-in-Plate c = ⊎_elim (λ is. rw is.5 (plate-uncalled _ _ _ _)) (λ is. rw is (unfit-uncalled _ _ _)) c.in-Plate.is

pub returns-in-Character : goal.returns-in-Character
returns-in-Character c = rw c.in-Character.is (character-called _ _ _ _ (rw c.unwrap-stepped.ensures at c.character.ensures))

pub returns-in-Poll : goal.returns-in-Poll
returns-in-Poll c = rw c.in-Poll.is (poll-called _ _ (rw c.unwrap-stepped-in-Poll.ensures at c.poll.ensures))

pub returns-in-Measured : goal.returns-in-Measured
returns-in-Measured c =
    rw (c.in-Measured.is, c.unheard.ensures) (measured-called _ _ (rw c.unwrap.ensures at (c.measured.ensures c.args.kept.now c.args.memory.now c.args.reply.now c.requires.within.places)))

pub returns-in-Fault : goal.returns-in-Fault
returns-in-Fault c =
    rw (c.in-Fault.is, c.unheard-in-Fault.ensures) (fault-called _ _ (rw c.unwrap-in-Fault.ensures at (c.fault.ensures c.args.kept.now c.args.memory.now c.args.reply.now c.requires.within.places)))

pub returns-in-PowerOn : goal.returns-in-PowerOn
returns-in-PowerOn c =
    rw (c.in-PowerOn.is, c.unheard-in-PowerOn.ensures) (power_on-called _ (rw c.unwrap-in-PowerOn.ensures at (c.power_on.ensures c.args.kept.now c.args.memory.now c.args.reply.now c.requires.within.places)))
