-- What is left to show of `board::reply::send`.
use Rattle.std.proofs.Common.{ap, ◌∙◌, Ok}
use Rattle.board.proofs.Sending.{brief_data, error-sent, data_sent, none-sent}
use Rattle.board.proofs.reply.send.Goals as goal

pub returns-in-Err : goal.returns-in-Err
returns-in-Err c = λ s o e. error-sent s _ _ c.in-Err.is o (c.marked.ensures _ e) c.write.ensures

pub returns-in-Ok-Some : goal.returns-in-Ok-Some
returns-in-Ok-Some c =
    let told = c.in-Ok-Some.is ∙ ap Ok (rw c.in-Ok-Some.is at c.in-Ok-Some.field-0-is) in
    λ s o e. data_sent s _ _ told (brief_data c.requires.brief told) c.requires.room o (c.marked-in-Ok-Some.ensures _ e) (rw c.from.ensures at c.seal.ensures)

pub returns-in-Ok-None : goal.returns-in-Ok-None
returns-in-Ok-None c = λ s o e. none-sent s _ _ (c.in-Ok-None.is ∙ ap Ok (rw c.in-Ok-None.is at c.in-Ok-None.field-0-is))
