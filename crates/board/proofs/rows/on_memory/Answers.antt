-- What is left to show of `board::rows::on_memory`.
use Rattle.std.proofs.Common.{sym, ◌∙◌, arith}
use Rattle.board.proofs.Dispatch.{sized, looked_4a, looked_4b, looked_4d, tellable_4c, countable_4e, seen_by, row_4a, row_4b, row_4c, row_4d, row_4e, memory_rows}
use Rattle.board.proofs.rows.on_memory.Goals as goal

pub survey-seen-requires : goal.survey-seen-requires
survey-seen-requires c = sized _ _ _ _ c.requires

pub read_field-requires : goal.read_field-requires
read_field-requires c = looked_4a _ _ _ _ c.requires _ c.byte_at.ensures c.survey-seen.ensures c.in-74.is

pub returns-in-74 : goal.returns-in-74
returns-in-74 c =
    λ p s e k. row_4a p s _ _ _ c.in-74.is (c.read_field.ensures p s (e ∙ sym c.survey-seen.ensures.total) k)

pub store_field-requires : goal.store_field-requires
store_field-requires c = looked_4b _ _ _ _ c.requires _ c.byte_at.ensures c.survey-seen.ensures c.in-75.is

pub returns-in-75 : goal.returns-in-75
returns-in-75 c =
    λ p s e k. row_4b p s _ _ _ c.in-75.is (c.store_field.ensures p s (e ∙ sym c.survey-seen.ensures.total) k)

pub field_status-requires : goal.field_status-requires
field_status-requires c = tellable_4c _ _ _ _ c.requires _ c.byte_at.ensures c.survey-seen.ensures c.in-76.is

pub returns-in-76 : goal.returns-in-76
returns-in-76 c =
    λ p s e k. row_4c p s _ _ _ c.in-76.is
    (c.field_status.ensures p s _ (seen_by _ _ _ _ c.requires _ c.byte_at.ensures c.survey-seen.ensures p e))

pub shape_field-requires : goal.shape_field-requires
shape_field-requires c = looked_4d _ _ _ _ c.requires _ c.byte_at.ensures c.survey-seen.ensures c.in-77.is

pub returns-in-77 : goal.returns-in-77
returns-in-77 c =
    λ p s e k. row_4d p s _ _ _ c.in-77.is (c.shape_field.ensures p s (e ∙ sym c.survey-seen.ensures.total) k)

pub memory_status-requires : goal.memory_status-requires
memory_status-requires c = countable_4e _ _ _ _ c.requires _ c.byte_at.ensures c.survey-seen.ensures

pub returns-in_default : goal.returns-in_default
returns-in_default c =
    let rows = memory_rows _ c.requires.memory in
    λ p s e k. row_4e p s _ _ _ (omega (arith, rows))
    (c.memory_status.ensures p s _ _ _ (seen_by _ _ _ _ c.requires _ c.byte_at.ensures c.survey-seen.ensures p e))
