-- What is left to show of `quicksetter::events::qs_character`: R1 to R3 in their order, then what is over and the character.
use Rattle.std.proofs.Common.{rules, ℕ, ◌<◌, arith, refl}
use Rattle.meaning.specs.Bytes.{arg}
use Rattle.quicksetter.proofs.Refusing.{lends-character}
use Rattle.quicksetter.proofs.Admitting.{some_number, image_unrefused, refused_so}
use Rattle.quicksetter.proofs.Wholes.{pause_so, as_long, lent_still, character-whole}
use Rattle.quicksetter.proofs.Numbers.{with_sleep, refused_with-sleep, low-pause, full-sleep}
use Rattle.quicksetter.proofs.events.qs_character.Goals as goal

pub returns-in-Err : goal.returns-in-Err
returns-in-Err c = rw c.answer.ensures (refused_with-sleep _ _ _ _ _ (refused_so _ _ _ _ (some_number _) (lends-character _ _ _) c.in-Err.ensures.refusal))

pub polled-sent-requires-clause-unrefused : goal.polled-sent-requires-clause-unrefused
polled-sent-requires-clause-unrefused c = image_unrefused _ _ _ c.in-Ok.ensures.refusal

pub polled-sent-requires-clause-whole_pause : goal.polled-sent-requires-clause-whole_pause
polled-sent-requires-clause-whole_pause c =
    pause_so _ c.in-Ok.ensures.plate c.full_pause-full.ensures

pub slice_bounds-take_character-end : goal.slice_bounds-take_character-end
slice_bounds-take_character-end c =
    let u = image_unrefused _ _ _ c.in-Ok.ensures.refusal in
    omega (arith, as_long _ _ _ u _ c.polled-sent.ensures)

pub take_character-requires : goal.take_character-requires
take_character-requires c =
    let u = image_unrefused _ _ _ c.in-Ok.ensures.refusal in
    lent_still _ _ _ u _ c.polled-sent.ensures

pub answer_number-requires : goal.answer_number-requires
answer_number-requires c =
    let u = image_unrefused _ _ _ c.in-Ok.ensures.refusal in
    let full = pause_so _ c.in-Ok.ensures.plate c.full_pause-full.ensures in
    rw full (low-pause _ u.core.plate)

pub returns : goal.returns
returns c =
    let u = image_unrefused _ _ _ c.in-Ok.ensures.refusal in
    let full = pause_so _ c.in-Ok.ensures.plate c.full_pause-full.ensures in
    let bytes : (i : ℕ) → arg c.polled-sent.new.image i < 256 = λ i. search rules in
    let whole = character-whole _ _ _ u _ c.polled-sent.ensures _ refl bytes c.take_character.ensures in
    rw (c.answer_number.ensures, full) (with_sleep _ _ _ _ whole (full-sleep _ _ _ u _ _ _))
