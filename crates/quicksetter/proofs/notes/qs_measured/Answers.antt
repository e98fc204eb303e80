-- What is left to show of `quicksetter::notes::qs_measured`: R1, and then the call on the core that the image lends.
use Rattle.std.proofs.Common.{refl, arith, rules, ℕ, ◌<◌}
use Rattle.meaning.specs.Bytes.{arg}
use Rattle.quicksetter.proofs.Heads.{ours-length, lent-small, called-whole}
use Rattle.quicksetter.proofs.Refusing.{lends-measured}
use Rattle.quicksetter.proofs.Admitting.{some_number, image_unrefused, lent-free, alone_so}
use Rattle.quicksetter.proofs.Noting.{state_held_lem, measured_in}
use Rattle.quicksetter.proofs.notes.qs_measured.Goals as goal

pub returns-in-Err : goal.returns-in-Err
returns-in-Err c = λ m w. rw c.number.ensures (alone_so _ m w _ (some_number _) (lends-measured _) c.in-Err.ensures.refusal)

pub slice_bounds-put_measured-end : goal.slice_bounds-put_measured-end
slice_bounds-put_measured-end c = omega (arith, ours-length _ (image_unrefused _ _ _ c.in_default.ensures.refusal).ours)

pub put_measured-requires : goal.put_measured-requires
put_measured-requires c = state_held_lem _ _ (lent-free _ c.in_default.ensures.refusal)

pub returns : goal.returns
returns c =
    let free = lent-free _ c.in_default.ensures.refusal in
    let ours = (image_unrefused _ _ _ c.in_default.ensures.refusal).ours in
    let bytes : (i : ℕ) → arg c.args.image.now i < 256 = λ i. search rules in
    λ m w. called-whole c.args.image.now m w _ ours refl (measured_in _ _ free (lent-small _ ours bytes) m w _ c.put_measured.ensures)
