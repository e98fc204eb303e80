-- What is left to show of `quicksetter::starts::qs_fresh`.
use Rattle.std.proofs.Common.{sym, ◌∙◌, refl, arith}
use Rattle.meaning.specs.State.{Plate}
use Rattle.line.specs.Line.{plate_of}
use Rattle.meaning.proofs.Plates.{low-address}
use Rattle.quicksetter.specs.Calls.{plate_from}
use Rattle.quicksetter.proofs.Starting.{no_place, plate_there, image_there, started, fresh-counts, fresh_fine}
use Rattle.quicksetter.proofs.starts.qs_fresh.Goals as goal

pub returns-then-not-has_place : goal.returns-then-not-has_place
returns-then-not-has_place c = rw c.number.ensures (no_place _ _ _ (sym c.has_place.ensures ∙ c.if-not-has_place.true))

pub overflow_cast-address : goal.overflow_cast-address
overflow_cast-address c =
    let p : Plate = plate_of (plate_from c.args.total c.args.bits c.args.address c.args.ticks c.args.pause) c.args.label.now in
    omega (arith, low-address p (plate_there p c.args.image.now (sym c.has_place.ensures ∙ c.if-not-has_place.false)))

pub make-requires-clause-counter_limit : goal.make-requires-clause-counter_limit
make-requires-clause-counter_limit c =
    let p : Plate = plate_of (plate_from c.args.total c.args.bits c.args.address c.args.ticks c.args.pause) c.args.label.now in
    fresh-counts p _ (c.fresh.ensures p refl)

pub returns : goal.returns
returns c =
    let p : Plate = plate_of (plate_from c.args.total c.args.bits c.args.address c.args.ticks c.args.pause) c.args.label.now in
    let there = sym c.has_place.ensures ∙ c.if-not-has_place.false in
    let ok = plate_there p c.args.image.now there in
    started p _ c.args.image.now (image_there p _ there) ok (fresh_fine p ok) (rw (c.fresh.ensures p refl) at c.make.ensures)
