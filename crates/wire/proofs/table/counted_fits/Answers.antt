-- What is left to show of `wire::table::counted_fits`.
use Rattle.std.proofs.Common.{ℕ, ◌-◌, ◌∙◌, ap, sym, length, arith}
use lib.Dec.{eqb}
use Rattle.wire.proofs.Laws.{too_few, too_many, count_past}
use Rattle.wire.proofs.table.counted_fits.Goals as goal

pub returns-then-n-base : goal.returns-then-n-base
returns-then-n-base c d x e f = sym (too_few _ d x (omega (arith, f)))

pub returns-then-from-more : goal.returns-then-from-more
returns-then-from-more c d x e f = sym (too_many _ d x (omega (arith, f)) (omega (arith, f)))

pub returns : goal.returns
returns c d x e f =
    ap (λ (k : ℕ). eqb (k - c.args.base) c.from-2.result) (sym f)
    ∙ ap (λ (k : ℕ). eqb (length x - c.args.base) k) (c.from-2.ensures ∙ sym e)
    ∙ count_past c.args.base d x (omega (arith, f)) (omega (arith, f))
