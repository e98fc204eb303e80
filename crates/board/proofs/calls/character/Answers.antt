-- What is left to show of `board::calls::character`.
use Rattle.std.proofs.lemmas.Result.{err_from_is_err_and}
use Rattle.board.proofs.Stepping.{character-refused, character-fits, character-taken}
use Rattle.board.proofs.calls.character.Goals as goal

pub returns-in_err-polled : goal.returns-in_err-polled
returns-in_err-polled c =
    let p = err_from_is_err_and c.from_residual.result c.from_residual.ensures.1 in
    character-refused _ _ _ _ _ _ c.poll.ensures (c.in_err-polled.was) _ _ (rw p.2 at p.1)

pub with_character-frame-requires : goal.with_character-frame-requires
with_character-frame-requires c = character-fits _ _ _ _ _ _ c.poll.ensures c.in_ok-polled.was

pub returns : goal.returns
returns c = character-taken _ _ _ _ _ _ c.poll.ensures c.in_ok-polled.was (c.full_pause.ensures _) c.with_character-frame.ensures
