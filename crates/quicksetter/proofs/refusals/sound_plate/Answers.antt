-- What is left to show of `quicksetter::refusals::sound_plate`: R1 by its three tests.
use Rattle.std.proofs.Common.{sym, ◌∙◌, refl, arith}
use Rattle.quicksetter.proofs.Heads.{ours-length}
use Rattle.quicksetter.proofs.Admitting.{told-strange, told-impossible, told-unsound, told-none}
use Rattle.quicksetter.proofs.refusals.sound_plate.Goals as goal

pub returns-then-not-is_ours-clause-refusal : goal.returns-then-not-is_ours-clause-refusal
returns-then-not-is_ours-clause-refusal c = told-strange _ _ _ (sym c.is_ours.ensures ∙ c.if-not-is_ours.true)

pub plate_in-plate-requires : goal.plate_in-plate-requires
plate_in-plate-requires c = omega (arith, ours-length _ (sym c.is_ours.ensures ∙ c.if-not-is_ours.false))

pub slice_bounds-is_possible-end : goal.slice_bounds-is_possible-end
slice_bounds-is_possible-end c = omega (arith, ours-length _ (sym c.is_ours.ensures ∙ c.if-not-is_ours.false))

pub returns-then-not-is_possible-clause-refusal : goal.returns-then-not-is_possible-clause-refusal
returns-then-not-is_possible-clause-refusal c =
    let ours = sym c.is_ours.ensures ∙ c.if-not-is_ours.false in
    told-impossible _ ours c.plate_in-plate.ensures _ _ c.is_possible.ensures c.if-not-is_possible.true

pub slice_bounds-is_sound-end : goal.slice_bounds-is_sound-end
slice_bounds-is_sound-end c = omega (arith, ours-length _ (sym c.is_ours.ensures ∙ c.if-not-is_ours.false))

pub returns-then-not-is_sound-clause-refusal : goal.returns-then-not-is_sound-clause-refusal
returns-then-not-is_sound-clause-refusal c =
    let ours = sym c.is_ours.ensures ∙ c.if-not-is_ours.false in
    told-unsound _ ours c.plate_in-plate.ensures _ _ c.is_possible.ensures c.if-not-is_possible.false c.is_sound.ensures c.if-not-is_sound.true

pub returns-clause-refusal : goal.returns-clause-refusal
returns-clause-refusal c =
    let ours = sym c.is_ours.ensures ∙ c.if-not-is_ours.false in
    told-none _ ours c.plate_in-plate.ensures _ _ c.is_possible.ensures c.if-not-is_possible.false c.is_sound.ensures c.if-not-is_sound.false refl (omega arith)
