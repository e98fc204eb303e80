-- What is left to show of `bench::length::done_length`: the length by the code's row.
use Rattle.std.proofs.Common.{◌∙◌, sym, ap, arith}
use Rattle.std.specs.Result.{result_err}
use Rattle.std.proofs.lemmas.Option.{same_Some}
use Rattle.std.proofs.lemmas.Result.{err_from_is_err_and}
use Rattle.wire.specs.Table.{row_of}
use Rattle.bench.specs.Lengths.{framed}
use Rattle.bench.proofs.Lengths.{few_bytes, by_row, no_row}
use Rattle.bench.proofs.length.done_length.Goals as goal

pub returns-in_err-row : goal.returns-in_err-row
unfolding framed
returns-in_err-row c =
    let p = err_from_is_err_and c.from_residual.result c.from_residual.ensures.1 in
    let none = ap row_of (sym c.in_err-row.ensures.ok_part) ∙ c.row_of.ensures in
    let b = same_Some _ _ (ap result_err (rw c.in_err-row.ensures.ok_part at c.in_err-row.ensures.value)) in
    rw (p.1, p.2, b) (sym (no_row _ _ none))

pub overflow_add-result : goal.overflow_add-result
overflow_add-result c = omega (arith, few_bytes c.in_ok-row.row _ _ (ap row_of (sym c.in_ok-row.ensures.ok_part) ∙ c.row_of.ensures) c.in-Exactly.is)

pub overflow_add-result-in-Counted : goal.overflow_add-result-in-Counted
overflow_add-result-in-Counted c = omega (arith, few_bytes c.in_ok-row.row _ _ (ap row_of (sym c.in_ok-row.ensures.ok_part) ∙ c.row_of.ensures) c.in-Counted.is)

pub overflow_add-result-in-Counted-2 : goal.overflow_add-result-in-Counted-2
overflow_add-result-in-Counted-2 c =
    omega (arith, few_bytes c.in_ok-row.row _ _ (ap row_of (sym c.in_ok-row.ensures.ok_part) ∙ c.row_of.ensures) c.in-Counted.is, c.from.ensures, c.byte_at.type_inv)

pub returns-in-Exactly : goal.returns-in-Exactly
unfolding framed
returns-in-Exactly c = sym (by_row c.in_ok-row.row _ _ (ap row_of (sym c.in_ok-row.ensures.ok_part) ∙ c.row_of.ensures) c.in-Exactly.is _)

pub returns-in-Counted : goal.returns-in-Counted
unfolding framed
returns-in-Counted c = rw (c.from.ensures, c.byte_at.ensures) (sym (by_row c.in_ok-row.row _ _ (ap row_of (sym c.in_ok-row.ensures.ok_part) ∙ c.row_of.ensures) c.in-Counted.is _))

pub returns-in-Never : goal.returns-in-Never
unfolding framed
returns-in-Never c = sym (by_row c.in_ok-row.row _ _ (ap row_of (sym c.in_ok-row.ensures.ok_part) ∙ c.row_of.ensures) c.in-Never.is _)
