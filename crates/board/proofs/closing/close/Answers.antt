-- What is left to show of `board::closing::close`.
use Rattle.std.proofs.Common.{sym, ◌∙◌, refl}
use Rattle.board.proofs.Endings.{unasked, long, workable, refused, requested}
use Rattle.board.proofs.closing.close.Goals as goal

pub returns-in_default : goal.returns-in_default
returns-in_default c =
    refused _ _ _ _ _ _ (c.own_byte.ensures _ refl) c.judged-judgement.result (sym c.judged-judgement.ensures)
    (unasked c.judged-judgement.result c.in_default.not-Request) (rw c.code.ensures at c.refuse-sent.ensures)

pub data_part-requires : goal.data_part-requires
data_part-requires c = long _ _ _ _ _ _ _ c.requires _ _ (sym c.judged-judgement.ensures ∙ c.in-Request.is)

pub serve-requires : goal.serve-requires
serve-requires c = workable _ _ _ _ _ _ _ c.requires _ _ (sym c.judged-judgement.ensures ∙ c.in-Request.is) c.data_part.ensures.value

pub returns : goal.returns
returns c =
    requested _ _ _ _ _ _ (c.own_byte.ensures _ refl) (sym c.judged-judgement.ensures ∙ c.in-Request.is)
    (rw c.data_part.ensures.value at c.serve.ensures)
