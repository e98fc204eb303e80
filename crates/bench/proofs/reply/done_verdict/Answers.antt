-- What is left to show of `bench::reply::done_verdict`: its checks of length and repeated bytes are those of `content`.
use Rattle.std.proofs.Common.{◌∙◌, sym, ap}
use Rattle.meaning.specs.Frames.{command_byte}
use Rattle.std.specs.Prelude.{Some}
use Rattle.std.specs.Result.{result_err}
use Rattle.std.proofs.lemmas.Option.{same_Some}
use Rattle.std.proofs.lemmas.Result.{err_from_is_err_and}
use Rattle.wire.specs.Table.{row_of}
use Rattle.bench.specs.Outcomes.{without_data}
use Rattle.bench.proofs.Laws.{none-fits, right_by_row, repeated_by_row, wrong_length, not-repeated, done-calm, done-warned}
use Rattle.bench.proofs.reply.done_verdict.Goals as goal

pub returns-in_err-row : goal.returns-in_err-row
unfolding command_byte
returns-in_err-row c =
    let p = err_from_is_err_and c.from_residual.result c.from_residual.ensures.1 in
    let none = ap row_of (sym c.in_err-row.ensures.ok_part) ∙ c.row_of.ensures in
    let b = same_Some _ _ (ap result_err (rw c.in_err-row.ensures.ok_part at c.in_err-row.ensures.value)) in
    rw (p.1, p.2, b) (sym (ap without_data (wrong_length _ _ c.requires.ordinary (none-fits _ _ none))))

pub returns-then-not-length_fits : goal.returns-then-not-length_fits
unfolding command_byte
returns-then-not-length_fits c =
    let by = ap row_of (sym c.in_ok-row.ensures.ok_part) ∙ c.row_of.ensures in
    let right = right_by_row (Some c.in_ok-row.row) c.args.request.now c.args.reply.now _ _ _ by
    c.data_part-asked.ensures.value c.data_part-answered.ensures.value c.length_fits.ensures in
    sym (ap without_data (wrong_length _ _ c.requires.ordinary (right ∙ c.if-not-length_fits.true)))

pub returns-then-not-same : goal.returns-then-not-same
unfolding command_byte
returns-then-not-same c =
    let by = ap row_of (sym c.in_ok-row.ensures.ok_part) ∙ c.row_of.ensures in
    let right = right_by_row (Some c.in_ok-row.row) c.args.request.now c.args.reply.now _ _ _ by
    c.data_part-asked.ensures.value c.data_part-answered.ensures.value c.length_fits.ensures in
    let repeats = repeated_by_row (Some c.in_ok-row.row) c.args.request.now c.args.reply.now _ _ _ _ _ by
    c.data_part-asked.ensures.value c.data_part-answered.ensures.value c.front-2.ensures.value c.front.ensures.value c.same.ensures in
    sym (ap without_data (not-repeated _ _ c.requires.ordinary (right ∙ c.if-not-length_fits.false) (repeats ∙ c.if-not-same.true)))

pub returns-then-reply-lt128 : goal.returns-then-reply-lt128
unfolding command_byte
returns-then-reply-lt128 c =
    let by = ap row_of (sym c.in_ok-row.ensures.ok_part) ∙ c.row_of.ensures in
    let right = right_by_row (Some c.in_ok-row.row) c.args.request.now c.args.reply.now _ _ _ by
    c.data_part-asked.ensures.value c.data_part-answered.ensures.value c.length_fits.ensures in
    let repeats = repeated_by_row (Some c.in_ok-row.row) c.args.request.now c.args.reply.now _ _ _ _ _ by
    c.data_part-asked.ensures.value c.data_part-answered.ensures.value c.front-2.ensures.value c.front.ensures.value c.same.ensures in
    sym (ap without_data (done-calm _ _ c.requires.ordinary (right ∙ c.if-not-length_fits.false) (repeats ∙ c.if-not-same.false) c.if-reply-lt128.true))

pub returns : goal.returns
unfolding command_byte
returns c =
    let by = ap row_of (sym c.in_ok-row.ensures.ok_part) ∙ c.row_of.ensures in
    let right = right_by_row (Some c.in_ok-row.row) c.args.request.now c.args.reply.now _ _ _ by
    c.data_part-asked.ensures.value c.data_part-answered.ensures.value c.length_fits.ensures in
    let repeats = repeated_by_row (Some c.in_ok-row.row) c.args.request.now c.args.reply.now _ _ _ _ _ by
    c.data_part-asked.ensures.value c.data_part-answered.ensures.value c.front-2.ensures.value c.front.ensures.value c.same.ensures in
    sym (ap without_data (done-warned _ _ c.requires.ordinary (right ∙ c.if-not-length_fits.false) (repeats ∙ c.if-not-same.false) c.if-reply-lt128.false))
