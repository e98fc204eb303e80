-- What is left to show of `quicksetter::events::polled`.
use Rattle.std.proofs.Common.{sym, ◌∙◌, arith, rules, ℕ, ◌<◌}
use Rattle.meaning.specs.Bytes.{arg}
use Rattle.meaning.proofs.Gaps.{over-told}
use Rattle.quicksetter.proofs.Heads.{ours-length}
use Rattle.quicksetter.proofs.Wholes.{remaining_so, polled-over, polled_early}
use Rattle.quicksetter.proofs.events.polled.Goals as goal

pub slice_bounds-remaining-end : goal.slice_bounds-remaining-end
slice_bounds-remaining-end c = omega (arith, ours-length _ c.requires.unrefused.ours)

pub returns-then-is_over : goal.returns-then-is_over
returns-then-is_over c =
    let left = remaining_so _ _ c.requires.unrefused.ours (c.remaining-left.ensures _ c.requires.whole_pause) in
    let over = over-told _ _ _ left ∙ sym c.is_over.ensures ∙ c.if-is_over.true in
    polled-over _ c.args.memory.now c.args.room.now c.requires.unrefused _ over c.shut.ensures

pub returns : goal.returns
returns c =
    let left = remaining_so _ _ c.requires.unrefused.ours (c.remaining-left.ensures _ c.requires.whole_pause) in
    let over = over-told _ _ _ left ∙ sym c.is_over.ensures ∙ c.if-is_over.false in
    let bytes : (i : ℕ) → arg c.args.image.now i < 256 = λ i. search rules in
    polled_early _ c.args.memory.now c.args.room.now c.requires.unrefused _ bytes over
