-- What is left to show of `quicksetter::notes::qs_power_on`: R1, and then the call on the core that the image lends.
use Rattle.std.proofs.Common.{refl, arith}
use Rattle.quicksetter.proofs.Heads.{ours-length, called-whole}
use Rattle.quicksetter.proofs.Refusing.{lends-power_on}
use Rattle.quicksetter.proofs.Admitting.{some_number, image_unrefused, lent-free, alone_so}
use Rattle.quicksetter.proofs.Noting.{state_held_lem, power_on_in}
use Rattle.quicksetter.proofs.notes.qs_power_on.Goals as goal

pub returns-in-Err : goal.returns-in-Err
returns-in-Err c = λ m w. rw c.number.ensures (alone_so _ m w _ (some_number _) lends-power_on c.in-Err.ensures.refusal)

pub slice_bounds-power_on-end : goal.slice_bounds-power_on-end
slice_bounds-power_on-end c = omega (arith, ours-length _ (image_unrefused _ _ _ c.in_default.ensures.refusal).ours)

pub power_on-requires : goal.power_on-requires
power_on-requires c = state_held_lem _ _ (lent-free _ c.in_default.ensures.refusal)

pub returns : goal.returns
returns c =
    let free = lent-free _ c.in_default.ensures.refusal in
    let ours = (image_unrefused _ _ _ c.in_default.ensures.refusal).ours in
    λ m w. called-whole c.args.image.now m w _ ours refl (power_on_in _ _ free m w c.power_on.ensures)
