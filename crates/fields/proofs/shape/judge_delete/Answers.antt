-- What is left to show of `fields::shape::judge_delete`.
use Rattle.std.proofs.Common.{ℕ, ◌+◌, ap, sym, ◌∙◌}
use Rattle.fields.proofs.Shapes.{delete-barred, delete_misnamed, delete-held, delete-granted}
use Rattle.fields.proofs.shape.judge_delete.Goals as goal

pub returns-then-is_wrong_code : goal.returns-then-is_wrong_code
returns-then-is_wrong_code c t sits there x = delete-barred _ _ _ _ _ _ c.if-is_wrong_code.ensures

pub returns-then-attributes_in : goal.returns-then-attributes_in
returns-then-attributes_in c t sits there x =
    delete_misnamed _ _ _ _ _ _ _ _ c.attributes_in.ensures c.attributes_in-2.ensures c.if-is_wrong_code.ensures c.if-attributes_in.true

pub returns-then-from-seen : goal.returns-then-from-seen
returns-then-from-seen c t sits there x =
    delete-held _ _ _ _ _ _ _ _ c.attributes_in.ensures c.attributes_in-2.ensures c.if-is_wrong_code.ensures c.if-attributes_in.false
    (λ h. c.if-from-seen.true (ap (λ (n : ℕ). n + 1) c.from.ensures ∙ h))

pub returns : goal.returns
returns c t sits there x =
    delete-granted _ _ _ _ _ _ _ _ c.attributes_in.ensures c.attributes_in-2.ensures c.if-is_wrong_code.ensures c.if-attributes_in.false
    (ap (λ (n : ℕ). n + 1) (sym c.from.ensures) ∙ c.if-from-seen.false) _ c.blocks_in.ensures sits x _ c.change_at.ensures
