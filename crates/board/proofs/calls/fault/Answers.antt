-- What is left to show of `board::calls::fault`.
use Rattle.std.proofs.Common.{refl}
use Rattle.std.proofs.lemmas.Result.{err_from_is_err_and}
use Rattle.meaning.specs.Run.{step, closes, lends}
use Rattle.meaning.specs.Frames.{still}
use Rattle.board.proofs.Stepping.{alone_refused, alone, noted-few}
use Rattle.board.proofs.calls.fault.Goals as goal

pub returns-in_err-within_limits : goal.returns-in_err-within_limits
unfolding lends
returns-in_err-within_limits c =
    λ k m w h. let p = err_from_is_err_and c.from_residual.result c.from_residual.ensures.1 in
    rw (p.1, p.2) (alone_refused _ _ k m w _ h refl refl (c.in_err-within_limits.ensures _ k refl h))

pub returns : goal.returns
unfolding step still closes lends
returns c = λ k m w h. alone _ _ k m w _ h refl _ (c.in_ok-within_limits.ensures _ k refl h) refl (c.note.ensures k) refl (noted-few _ _ _ c.note.ensures)
