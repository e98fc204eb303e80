-- What is left to show of `quicksetter::events::qs_poll`: R1 to R3 in their order; then no frame, one that is over, and one that is not.
use Rattle.std.proofs.Common.{rules, ℕ, ◌<◌, refl, sym, ◌∙◌, arith}
use Rattle.meaning.specs.Bytes.{arg}
use Rattle.meaning.proofs.Gaps.{over-told}
use Rattle.quicksetter.specs.Calls.{sleep_number}
use Rattle.quicksetter.proofs.Heads.{ours-length}
use Rattle.quicksetter.proofs.Refusing.{lends-poll}
use Rattle.quicksetter.proofs.Admitting.{some_number, image_unrefused, refused_so}
use Rattle.quicksetter.proofs.Wholes.{open_so, pause_so, remaining_so, polled-over, poll-whole}
use Rattle.quicksetter.proofs.Numbers.{with_sleep, refused_with-sleep, left_number, low-sleep, none_open, shut_sleep, early}
use Rattle.quicksetter.proofs.events.qs_poll.Goals as goal

pub returns-in-Err : goal.returns-in-Err
returns-in-Err c = rw c.answer.ensures (refused_with-sleep _ _ _ _ _ (refused_so _ _ _ _ (some_number _) (lends-poll _) c.in-Err.ensures.refusal))

pub slice_bounds-is_open-end : goal.slice_bounds-is_open-end
slice_bounds-is_open-end c = omega (arith, ours-length _ (image_unrefused _ _ _ c.in-Ok.ensures.refusal).ours)

pub returns-then-not-is_open : goal.returns-then-not-is_open
unfolding sleep_number
returns-then-not-is_open c =
    let u = image_unrefused _ _ _ c.in-Ok.ensures.refusal in
    let ours = u.ours in
    let bytes : (i : ℕ) → arg c.args.image.now i < 256 = λ i. search rules in
    let closed = sym (open_so _ ours c.is_open.ensures) ∙ c.if-not-is_open.true in
    rw c.answer_number.ensures (early _ _ _ u _ bytes (none_open _ _ _ closed) refl)

pub slice_bounds-remaining-end : goal.slice_bounds-remaining-end
slice_bounds-remaining-end c = omega (arith, ours-length _ (image_unrefused _ _ _ c.in-Ok.ensures.refusal).ours)

pub shut-requires : goal.shut-requires
shut-requires c = image_unrefused _ _ _ c.in-Ok.ensures.refusal

pub returns-then-is_over : goal.returns-then-is_over
returns-then-is_over c =
    let u = image_unrefused _ _ _ c.in-Ok.ensures.refusal in
    let ours = u.ours in
    let full = pause_so _ c.in-Ok.ensures.plate c.full_pause.ensures in
    let left = remaining_so _ _ ours (c.remaining-left.ensures _ full) in
    let over = over-told _ _ _ left ∙ sym c.is_over.ensures ∙ c.if-is_over.true in
    rw c.answer_number-then-is_over.ensures
    (with_sleep _ _ _ _ (poll-whole _ _ _ u _ (polled-over _ _ _ u _ over c.shut.ensures)) (shut_sleep _ _ _ u _ over))

pub answer_number-requires-2 : goal.answer_number-requires-2
answer_number-requires-2 c =
    let u = image_unrefused _ _ _ c.in-Ok.ensures.refusal in
    let ours = u.ours in
    let full = pause_so _ c.in-Ok.ensures.plate c.full_pause.ensures in
    let left = remaining_so _ _ ours (c.remaining-left.ensures _ full) in
    rw (c.unwrap_or.ensures, left_number) (low-sleep _ _ _ u.core.plate left)

pub returns : goal.returns
returns c =
    let u = image_unrefused _ _ _ c.in-Ok.ensures.refusal in
    let ours = u.ours in
    let full = pause_so _ c.in-Ok.ensures.plate c.full_pause.ensures in
    let left = remaining_so _ _ ours (c.remaining-left.ensures _ full) in
    let bytes : (i : ℕ) → arg c.args.image.now i < 256 = λ i. search rules in
    rw (c.answer_number-2.ensures, c.unwrap_or.ensures, left_number) (early _ _ _ u _ bytes left (sym c.is_over.ensures ∙ c.if-is_over.false))
