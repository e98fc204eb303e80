-- What is left to show of `quicksetter::events::served`: first of a request that needs the memory, then of one that changes the state or is refused.
use Rattle.std.proofs.Common.{rules, refl, sym, ◌∙◌, arith, take, drop, ℕ, ◌<◌}
use Rattle.meaning.specs.Bytes.{arg}
use Rattle.meaning.specs.State.{none}
use Rattle.line.specs.Line.{plate_of}
use Rattle.state.specs.State.{state_with}
use Rattle.image.specs.Image.{label_in, state_in}
use Rattle.image.proofs.Round.{good}
use Rattle.board.proofs.Dispatch.{changeable, memory-lent}
use Rattle.board.proofs.Endings.{sendable, still-wide, told_served}
use Rattle.quicksetter.proofs.Heads.{ours-length, lent-small}
use Rattle.quicksetter.proofs.Closing.{asked_in, ordered_in, barred_in, codes-lent, four-lent}
use Rattle.quicksetter.proofs.Serving.{effect-low, label-there, lent_servable, lent_again, served_still, served_anew}
use Rattle.quicksetter.proofs.events.served.Goals as goal

pub plate_in-plate-requires : goal.plate_in-plate-requires
plate_in-plate-requires c = omega (arith, ours-length _ c.requires.ours)

pub slice_bounds-core-end : goal.slice_bounds-core-end
slice_bounds-core-end c = omega (arith, ours-length _ c.requires.ours)

pub on_memory-answer-requires : goal.on_memory-answer-requires
on_memory-answer-requires c =
    let may = lent_servable _ c.args.image.now c.requires.ours c.plate_in-plate.ensures _ _ c.requires.core in
    memory-lent c.plate_in-plate.result (label_in c.args.image.now) (state_in (take 165 (drop 47 c.args.image.now))) _ _ _
    (rw c.data_part-request.ensures.value may.works) _ (four-lent _ may.bytes) (sym c.needs_memory.ensures ∙ c.if-needs_memory.true)

pub own-requires : goal.own-requires
own-requires c =
    let may = lent_servable _ c.args.image.now c.requires.ours c.plate_in-plate.ensures _ _ c.requires.core in
    (omega (arith, (good _ may.bytes).all), may.works.address)

pub send-requires : goal.send-requires
send-requires c =
    let may = lent_servable _ c.args.image.now c.requires.ours c.plate_in-plate.ensures _ _ c.requires.core in
    let tells = c.on_memory-answer.ensures (plate_of c.plate_in-plate.result (label_in c.args.image.now))
    (state_with (state_in (take 165 (drop 47 c.args.image.now))) none) refl (codes-lent _ may.bytes) in
    sendable _ _ _ _ _ tells.works.answer (search rules)

pub returns-then-needs_memory : goal.returns-then-needs_memory
returns-then-needs_memory c =
    let may = lent_servable _ c.args.image.now c.requires.ours c.plate_in-plate.ensures _ _ c.requires.core in
    let tells = rw c.data_part-request.ensures.value at
    (c.on_memory-answer.ensures (plate_of c.plate_in-plate.result (label_in c.args.image.now))
    (state_with (state_in (take 165 (drop 47 c.args.image.now))) none) refl (codes-lent _ may.bytes)) in
    let serves = told_served _ _ _ _ _ _ may.works.room tells (c.send.ensures (state_in (take 165 (drop 47 c.args.image.now))) c.own.ensures c.waits.ensures) in
    let bytes : (i : ℕ) → arg c.args.image.now i < 256 = λ i. search rules in
    let small = lent-small _ c.requires.ours bytes in
    served_still _ c.args.image.now c.requires.ours c.plate_in-plate.ensures _ _ _ _ (asked_in _ _ _ _ _ _ may.bytes small serves)

pub slice_bounds-core-end-2 : goal.slice_bounds-core-end-2
slice_bounds-core-end-2 c = omega (arith, ours-length _ c.requires.ours)

pub slice_bounds-label-end : goal.slice_bounds-label-end
slice_bounds-label-end c = omega (arith, ours-length _ c.requires.ours)

pub on_state-requires : goal.on_state-requires
on_state-requires c =
    let may = lent_servable _ c.args.image.now c.requires.ours c.plate_in-plate.ensures _ _ c.requires.core in
    rw (label-there c.args.image.now)
    (changeable c.plate_in-plate.result (label_in c.args.image.now) _ _ c.args.memory.now c.args.room.now
    (rw (c.state_in-state.ensures, c.data_part-request-2.ensures.value) may.works) (sym c.needs_memory.ensures ∙ c.if-needs_memory.false))

pub slice_bounds-put_effect-end : goal.slice_bounds-put_effect-end
slice_bounds-put_effect-end c = omega (arith, ours-length _ c.requires.ours)

pub put_effect-requires-clause-bounded : goal.put_effect-requires-clause-bounded
put_effect-requires-clause-bounded c =
    let there = sym (label-there c.args.image.now) in
    (c.in-Ok.ensures (plate_of c.plate_in-plate.result (label_in c.args.image.now)) c.args.memory.now refl there).row.placed

pub put_effect-requires-clause-holds_state : goal.put_effect-requires-clause-holds_state
put_effect-requires-clause-holds_state c =
    let may = lent_servable _ c.args.image.now c.requires.ours c.plate_in-plate.ensures _ _ c.requires.core in
    record { all = (good _ may.bytes).all; lock = (good _ may.bytes).locked }

pub own-requires-in-Ok : goal.own-requires-in-Ok
own-requires-in-Ok c =
    let may = lent_servable _ c.args.image.now c.requires.ours c.plate_in-plate.ensures _ _ c.requires.core in
    let worked = rw (c.state_in-state.ensures, c.data_part-request-2.ensures.value) at
    (c.in-Ok.ensures (plate_of c.plate_in-plate.result (label_in c.args.image.now)) c.args.memory.now refl (sym (label-there c.args.image.now))) in
    let low = effect-low c.put_effect.ensures worked.row.placed may.works.address in
    (search rules, rw (lent_again _ c.args.image.now c.requires.ours c.plate_in-plate.ensures may.bytes c.put_effect.ensures) low)

pub send-requires-in-Ok : goal.send-requires-in-Ok
send-requires-in-Ok c =
    let may = lent_servable _ c.args.image.now c.requires.ours c.plate_in-plate.ensures _ _ c.requires.core in
    let worked = rw (c.state_in-state.ensures, c.data_part-request-2.ensures.value) at
    (c.in-Ok.ensures (plate_of c.plate_in-plate.result (label_in c.args.image.now)) c.args.memory.now refl (sym (label-there c.args.image.now))) in
    sendable _ _ _ _ _ worked.row.answer (still-wide (plate_of c.plate_in-plate.result (label_in c.args.image.now)) _ _ _ _ _ may.works.room worked)

pub returns-in-Ok : goal.returns-in-Ok
returns-in-Ok c =
    let may = lent_servable _ c.args.image.now c.requires.ours c.plate_in-plate.ensures _ _ c.requires.core in
    let worked = rw (c.state_in-state.ensures, c.data_part-request-2.ensures.value) at
    (c.in-Ok.ensures (plate_of c.plate_in-plate.result (label_in c.args.image.now)) c.args.memory.now refl (sym (label-there c.args.image.now))) in
    let again = lent_again _ c.args.image.now c.requires.ours c.plate_in-plate.ensures may.bytes c.put_effect.ensures in
    let sends = c.send-in-Ok.ensures _ (rw again at c.own-in-Ok.ensures) (rw again at c.waits-in-Ok.ensures) in
    served_anew _ c.args.image.now c.requires.ours c.plate_in-plate.ensures _ _ _ _
    (ordered_in (plate_of c.plate_in-plate.result (label_in c.args.image.now)) _ _ _ _ _ may.works.room worked c.put_effect.ensures sends)

pub own-requires-in-Err : goal.own-requires-in-Err
own-requires-in-Err c =
    let may = lent_servable _ c.args.image.now c.requires.ours c.plate_in-plate.ensures _ _ c.requires.core in
    (omega (arith, (good _ may.bytes).all), may.works.address)

pub returns-in-Err : goal.returns-in-Err
returns-in-Err c =
    let may = lent_servable _ c.args.image.now c.requires.ours c.plate_in-plate.ensures _ _ c.requires.core in
    let barred = rw (c.state_in-state.ensures, c.data_part-request-2.ensures.value) at
    (c.in-Err.ensures (plate_of c.plate_in-plate.result (label_in c.args.image.now)) c.args.memory.now refl (sym (label-there c.args.image.now))) in
    let sends = c.send-in-Err.ensures (state_in (take 165 (drop 47 c.args.image.now))) c.own-in-Err.ensures c.waits-in-Err.ensures in
    let bytes : (i : ℕ) → arg c.args.image.now i < 256 = λ i. search rules in
    let small = lent-small _ c.requires.ours bytes in
    served_still _ c.args.image.now c.requires.ours c.plate_in-plate.ensures _ _ _ _
    (barred_in (plate_of c.plate_in-plate.result (label_in c.args.image.now)) _ _ _ _ _ may.bytes small may.works.room barred sends)
