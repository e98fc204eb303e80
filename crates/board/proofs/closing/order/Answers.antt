-- What is left to show of `board::closing::order`.
use Rattle.std.proofs.Common.{ap, refl, arith, Ok, Err}
use Rattle.meaning.specs.State.{State, none}
use Rattle.line.specs.Line.{plate_of}
use Rattle.state.specs.State.{state_with}
use Rattle.state.specs.Effects.{effect_on}
use Rattle.board.proofs.Dispatch.{changeable}
use Rattle.board.proofs.Endings.{worked_served, sendable, still-low}
use Rattle.board.proofs.closing.order.Goals as goal

pub on_state-requires : goal.on_state-requires
on_state-requires c = changeable _ _ _ _ _ _ c.requires.0 c.requires.1

pub after-next-requires : goal.after-next-requires
after-next-requires c = (c.in-Ok.ensures (plate_of c.args.plate c.args.label.now) c.args.memory.now refl refl).row.placed

pub reply_from-sent-requires : goal.reply_from-sent-requires
reply_from-sent-requires c =
    let works = c.in-Ok.ensures (plate_of c.args.plate c.args.label.now) c.args.memory.now refl refl in
    let low = still-low c.in-Ok.worked.effect (state_with c.args.state none) works.row.placed c.requires.0.address in
    (omega (arith, ap (λ (z : State). z.address) (c.after-next.ensures none), low), sendable _ _ _ _ _ works.row.answer (omega arith))

pub returns-in-Ok : goal.returns-in-Ok
returns-in-Ok c =
    worked_served _ _ _ _ _ _ c.requires.0.room c.after-next.result (Ok c.in-Ok.worked)
    (c.in-Ok.ensures (plate_of c.args.plate c.args.label.now) c.args.memory.now refl refl) refl (c.after-next.ensures none) c.reply_from-sent.ensures

pub returns-in-Err : goal.returns-in-Err
unfolding effect_on
returns-in-Err c =
    worked_served _ _ _ _ _ _ c.requires.0.room c.args.state (Err c.in-Err.error)
    (c.in-Err.ensures (plate_of c.args.plate c.args.label.now) c.args.memory.now refl refl) refl refl c.reply_from-sent-in-Err.ensures
