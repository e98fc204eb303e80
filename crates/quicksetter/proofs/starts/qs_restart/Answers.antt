-- What is left to show of `quicksetter::starts::qs_restart`.
use Rattle.std.proofs.Common.{sym, ◌∙◌, refl}
use Rattle.meaning.specs.State.{Plate, none}
use Rattle.line.specs.Line.{plate_of}
use Rattle.quicksetter.specs.Calls.{plate_from}
use Rattle.quicksetter.proofs.Starting.{no_lasting, restarts, no_place, plate_there, image_there, no_state, started, nothing-short, state-counts}
use Rattle.quicksetter.proofs.starts.qs_restart.Goals.{then-lasting-ne-LASTING_LENGTH-via-then-lasting-ne-LASTING_LENGTH as another, then-lasting-ne-LASTING_LENGTH-via-else-lasting-ne-LASTING_LENGTH+then-not-has_place as placeless}
use Rattle.quicksetter.proofs.starts.qs_restart.Goals as goal

pub returns-then-lasting-ne-LASTING_LENGTH : goal.returns-then-lasting-ne-LASTING_LENGTH
returns-then-lasting-ne-LASTING_LENGTH c = rw c.number.ensures (elim c.then-lasting-ne-LASTING_LENGTH.branch [
  | another w ↦ no_lasting _ _ _ w.if-lasting-ne-LASTING_LENGTH.true
  | placeless w ↦ restarts _ _ _ w.if-lasting-ne-LASTING_LENGTH.false (no_place _ _ _ (sym w.has_place.ensures ∙ w.if-not-has_place.true))
])

pub returns-then-not-is_ok : goal.returns-then-not-is_ok
returns-then-not-is_ok c =
    let p : Plate = plate_of (plate_from c.args.total c.args.bits c.args.address c.args.ticks c.args.pause) c.args.label.now in
    let there = sym c.has_place.ensures ∙ c.if-not-has_place.false in
    let state = rw c.lasting_in-state.ensures at (sym (c.is_ok.ensures p none refl nothing-short) ∙ c.if-not-is_ok.true) in
    rw c.number-then-not-is_ok.ensures (restarts _ _ _ c.if-lasting-ne-LASTING_LENGTH.false (no_state p _ _ (image_there p c.args.image.now there) (plate_there p c.args.image.now there) state))

pub make-requires-clause-counter_limit : goal.make-requires-clause-counter_limit
make-requires-clause-counter_limit c =
    let p : Plate = plate_of (plate_from c.args.total c.args.bits c.args.address c.args.ticks c.args.pause) c.args.label.now in
    state-counts p _ (sym (c.is_ok.ensures p none refl nothing-short) ∙ c.if-not-is_ok.false)

pub returns : goal.returns
returns c =
    let p : Plate = plate_of (plate_from c.args.total c.args.bits c.args.address c.args.ticks c.args.pause) c.args.label.now in
    let there = sym c.has_place.ensures ∙ c.if-not-has_place.false in
    let state = rw c.lasting_in-state.ensures at (sym (c.is_ok.ensures p none refl nothing-short) ∙ c.if-not-is_ok.false) in
    restarts _ _ _ c.if-lasting-ne-LASTING_LENGTH.false (started p _ _ (image_there p c.args.image.now there) (plate_there p c.args.image.now there) state (rw c.lasting_in-state.ensures at c.make.ensures))
