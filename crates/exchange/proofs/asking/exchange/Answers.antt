-- What is left to show of `exchange::asking::exchange`: the refusals in their order, and what a written request comes to.
use Rattle.std.proofs.Common.{refl, sym, ◌∙◌, arith}
use lib.Seq.{length-take-le}
use borrow.Author.Tests.{eqb-false}
use Rattle.std.proofs.lemmas.Result.{err_from_is_err_and}
use Rattle.meaning.specs.Run.{poll}
use Rattle.board.proofs.Bounding.{lends-poll}
use Rattle.exchange.proofs.Stepping.{within, wide}
use Rattle.exchange.proofs.Refusing.{none-refuses, wrote, passes_unsent, passes-refused, refused_open, refused_slow, refused_bench, passes_unwritten, passes-heard}
use Rattle.exchange.proofs.asking.exchange.Goals as goal

pub returns-in_err-refusal : goal.returns-in_err-refusal
returns-in_err-refusal c =
    let p = err_from_is_err_and c.from_residual.result c.from_residual.ensures.1 in
    let h = c.in_err-refusal.ensures c.args.label.now c.args.kept.now c.args.memory.now (poll 0) refl refl refl (lends-poll 0) in
    passes_unsent _ _ _ _ _ _ _ _ _ _ h (rw p.2 at p.1)

pub returns-then-is_open : goal.returns-then-is_open
returns-then-is_open c =
    let none = none-refuses _ _ c.args.label.now c.args.kept.now c.args.memory.now _ c.in_ok-refusal.ensures in
    passes-refused _ _ _ _ _ _ _ _ _ _ (refused_open _ _ _ _ _ _ _ _ _ _ none (sym (c.is_open.ensures c.args.kept.now) ∙ c.if-is_open.true))
    (eqb-false 6 0 refl) refl refl

pub returns-then-full_pause-from : goal.returns-then-full_pause-from
returns-then-full_pause-from c =
    let none = none-refuses _ _ c.args.label.now c.args.kept.now c.args.memory.now _ c.in_ok-refusal.ensures in
    let idle = sym (c.is_open.ensures c.args.kept.now) ∙ c.if-is_open.false in
    passes-refused _ _ _ _ _ _ _ _ _ _
    (refused_slow _ _ _ _ _ _ _ _ _ _ none idle (omega (arith, c.full_pause.ensures c.args.label.now, c.from.ensures, c.if-full_pause-from.true)))
    (eqb-false 7 0 refl) refl refl

pub returns-in_err-len : goal.returns-in_err-len
returns-in_err-len c =
    let none = none-refuses _ _ c.args.label.now c.args.kept.now c.args.memory.now _ c.in_ok-refusal.ensures in
    let idle = sym (c.is_open.ensures c.args.kept.now) ∙ c.if-is_open.false in
    let p = err_from_is_err_and c.from_residual-in_err-len.result c.from_residual-in_err-len.ensures.1 in
    passes_unwritten _ _ _ _ _ _ _ _ _ _ none idle (omega (arith, c.full_pause.ensures c.args.label.now, c.from.ensures, c.if-full_pause-from.false)) _ c.in_err-len.ensures (rw p.2 at p.1)

pub slice_bounds-asked-end : goal.slice_bounds-asked-end
slice_bounds-asked-end c = (wrote _ _ _ _ _ _ c.in_ok-len.ensures).within

pub slice_bounds-asked-end-2 : goal.slice_bounds-asked-end-2
slice_bounds-asked-end-2 c = sym (length-take-le _ _ (wrote _ _ _ _ _ _ c.in_ok-len.ensures).within)

pub converse-requires : goal.converse-requires
converse-requires c =
    let none = none-refuses _ _ c.args.label.now c.args.kept.now c.args.memory.now _ c.in_ok-refusal.ensures in
    record {
      within = within _ _ _ _ _ (poll 0) (lends-poll 0) none;
      wide = wide _ _ _ _ _ (poll 0) (lends-poll 0) none;
      idle = sym (c.is_open.ensures c.args.kept.now) ∙ c.if-is_open.false;
      close = omega (arith, c.full_pause.ensures c.args.label.now, c.from.ensures, c.if-full_pause-from.false);
      short = (wrote _ _ _ _ _ _ c.in_ok-len.ensures).short;
    }

pub returns : goal.returns
returns c =
    let none = none-refuses _ _ c.args.label.now c.args.kept.now c.args.memory.now _ c.in_ok-refusal.ensures in
    let idle = sym (c.is_open.ensures c.args.kept.now) ∙ c.if-is_open.false in
    let y = wrote _ _ _ _ _ _ c.in_ok-len.ensures in
    let right = refused_bench _ _ _ _ _ _ _ _ _ _ none idle (omega (arith, c.full_pause.ensures c.args.label.now, c.from.ensures, c.if-full_pause-from.false)) in
    passes-heard _ _ _ _ _ _ _ _ _ _ (right ∙ y.unrefused) y (c.converse.ensures _ _ _ y.asks)
