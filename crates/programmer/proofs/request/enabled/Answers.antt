-- What is left to show of `programmer::request::enabled`: without bit 6 there is room for it.
use Rattle.std.proofs.Common.{◌∙◌, sym, arith}
use Rattle.programmer.proofs.Asking.{clear_bit}
use Rattle.programmer.proofs.request.enabled.Goals as goal

pub overflow_add-result : goal.overflow_add-result
overflow_add-result c = omega (arith, clear_bit _ (sym c.is_writable.ensures ∙ c.if-is_writable.false))
