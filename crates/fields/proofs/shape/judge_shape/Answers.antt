-- What is left to show of `fields::shape::judge_shape`.
use Rattle.std.proofs.Common.{true, ◌≡◌, sym, ◌∙◌, ◌<◌, arith}
use borrow.Author.Tests.{not-true, not-false}
use Rattle.meaning.specs.Bytes.{arg}
use Rattle.fields.proofs.Shapes.{shape_unsound, shape_past, shape_none, shape_create, shape_modify, shape_delete}
use Rattle.fields.proofs.shape.judge_shape.Goals as goal

pub returns-then-not-seen : goal.returns-then-not-seen
returns-then-not-seen c = shape_unsound _ _ _ _ (not-true _ c.if-not-seen.true)

pub returns-then-number-seen : goal.returns-then-number-seen
returns-then-number-seen c =
    let sound : c.args.seen.sound ≡ true = not-false _ c.if-not-seen.false in
    let there = sym c.if-has_field.ensures in
    let last = sym c.from-number.ensures ∙ c.if-number-seen.true in
    shape_create _ _ _ _ sound there last _ (c.judge_create.ensures _ (c.requires.sits sound) last there)

pub returns-then-seen-number : goal.returns-then-seen-number
returns-then-seen-number c = shape_past _ _ _ _ (not-false _ c.if-not-seen.false) (sym c.if-has_field.ensures) (omega arith)

pub returns-then-has_field : goal.returns-then-has_field
returns-then-has_field c =
    let sound : c.args.seen.sound ≡ true = not-false _ c.if-not-seen.false in
    let there = sym c.if-has_field.ensures in
    let below : arg c.args.request.now 0 < c.args.seen.fields = omega arith in
    shape_modify _ _ _ _ sound there below _ (c.judge_modify.ensures _ (c.requires.sits sound) below there)

pub returns-then-seen-number-2 : goal.returns-then-seen-number-2
returns-then-seen-number-2 c = shape_none _ _ _ _ (not-false _ c.if-not-seen.false) (sym c.if-has_field.ensures) (omega arith)

pub returns : goal.returns
returns c =
    let sound : c.args.seen.sound ≡ true = not-false _ c.if-not-seen.false in
    let gone = sym c.if-has_field.ensures in
    let below : arg c.args.request.now 0 < c.args.seen.fields = omega arith in
    shape_delete _ _ _ _ sound gone below _ (c.judge_delete.ensures _ (c.requires.sits sound) below gone)
