-- What is left to show of `board::closing::ask`.
use Rattle.std.proofs.Common.{[], refl, arith}
use Rattle.meaning.specs.State as meaning
use Rattle.meaning.specs.State.{none}
use Rattle.state.specs.State.{state_with}
use Rattle.board.proofs.Endings.{told_served, sendable}
use Rattle.board.proofs.closing.ask.Goals as goal

pub reply_from-requires : goal.reply_from-requires
reply_from-requires c =
    let p : meaning.Plate = record { total = c.args.total; bits = 0; address = 0; ticks = 0; pause = 0; label = [] } in
    let tells = c.on_memory-answer.ensures p (state_with c.args.state none) refl refl in
    (c.requires.1, sendable p _ _ _ _ tells.works.answer (omega arith))

pub returns : goal.returns
returns c = λ p e. told_served p _ _ _ _ _ c.requires.0.room (c.on_memory-answer.ensures p (state_with c.args.state none) e refl) c.reply_from.ensures
