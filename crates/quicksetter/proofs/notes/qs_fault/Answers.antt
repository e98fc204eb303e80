-- What is left to show of `quicksetter::notes::qs_fault`: R1, and then the call on the core that the image lends.
use Rattle.std.proofs.Common.{refl, arith, rules, ℕ, ◌<◌}
use Rattle.meaning.specs.Bytes.{arg}
use Rattle.quicksetter.proofs.Heads.{ours-length, lent-small, called-whole}
use Rattle.quicksetter.proofs.Refusing.{lends-fault}
use Rattle.quicksetter.proofs.Admitting.{some_number, image_unrefused, lent-free, alone_so}
use Rattle.quicksetter.proofs.Noting.{state_held_lem, fault_in}
use Rattle.quicksetter.proofs.notes.qs_fault.Goals as goal

pub returns-in-Err : goal.returns-in-Err
returns-in-Err c = λ m w. rw c.number.ensures (alone_so _ m w _ (some_number _) (lends-fault _) c.in-Err.ensures.refusal)

pub slice_bounds-note-end : goal.slice_bounds-note-end
slice_bounds-note-end c = omega (arith, ours-length _ (image_unrefused _ _ _ c.in_default.ensures.refusal).ours)

pub note-requires : goal.note-requires
note-requires c = state_held_lem _ _ (lent-free _ c.in_default.ensures.refusal)

pub returns : goal.returns
returns c =
    let free = lent-free _ c.in_default.ensures.refusal in
    let ours = (image_unrefused _ _ _ c.in_default.ensures.refusal).ours in
    let bytes : (i : ℕ) → arg c.args.image.now i < 256 = λ i. search rules in
    λ m w. called-whole c.args.image.now m w _ ours refl (fault_in _ _ free (lent-small _ ours bytes) m w _ c.note.ensures)
