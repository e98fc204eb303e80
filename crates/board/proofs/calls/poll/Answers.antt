-- What is left to show of `board::calls::poll`.
use Rattle.std.proofs.Common.{◌∙◌, sym, refl}
use Rattle.std.proofs.lemmas.Result.{err_from_is_err_and}
use Rattle.meaning.specs.Run.{poll}
use Rattle.meaning.proofs.Gaps.{over-told}
use Rattle.board.proofs.Bounding.{ready, lends-poll, none-refused}
use Rattle.board.proofs.Stepping.{refused, poll-over, poll-still}
use Rattle.board.proofs.calls.poll.Goals as goal

pub returns-in_err-refusal : goal.returns-in_err-refusal
returns-in_err-refusal c =
    let p = err_from_is_err_and c.from_residual.result c.from_residual.ensures.1 in
    refused _ _ _ _ _ _ (tt {0}) p.1 (rw p.2 (c.in_err-refusal.ensures c.args.label.now _ _ (poll c.args.tick) refl refl refl (lends-poll _)))

pub returns-then-not-is_over : goal.returns-then-not-is_over
returns-then-not-is_over c =
    let willing = none-refused _ _ (c.in_ok-refusal.ensures c.args.label.now _ _ (poll c.args.tick) refl refl refl (lends-poll _)) in
    let enough = ready _ _ _ _ _ _ (poll c.args.tick) (lends-poll _) willing in
    let left = c.remaining-remaining.ensures _ _ _ (c.full_pause.ensures c.args.label.now) refl in
    poll-still _ _ _ _ _ _ willing left (over-told _ _ _ left ∙ sym c.is_over.ensures ∙ c.if-not-is_over.true) enough.fits.few

pub close-closed-requires : goal.close-closed-requires
close-closed-requires c =
    let willing = none-refused _ _ (c.in_ok-refusal.ensures c.args.label.now _ _ (poll c.args.tick) refl refl refl (lends-poll _)) in
    ready _ _ _ _ _ _ (poll c.args.tick) (lends-poll _) willing

pub returns : goal.returns
returns c =
    let willing = none-refused _ _ (c.in_ok-refusal.ensures c.args.label.now _ _ (poll c.args.tick) refl refl refl (lends-poll _)) in
    let left = c.remaining-remaining.ensures _ _ _ (c.full_pause.ensures c.args.label.now) refl in
    poll-over _ _ _ _ _ _ willing c.none.ensures c.from.ensures (over-told _ _ _ left ∙ sym c.is_over.ensures ∙ c.if-not-is_over.false) c.close-closed.ensures
