-- What is left to show of `programmer::wish::field_here`: a record that passed each test is a field's.
use Rattle.std.proofs.Common.{◌∙◌, sym}
use Rattle.programmer.proofs.Reading.{lies_field}
use Rattle.programmer.proofs.wish.field_here.Goals as goal

pub returns : goal.returns
returns c = lies_field _ _ _ c.in_ok-record.ensures c.if-record-ne33.false _ c.byte_at.ensures (sym c.has_field.ensures ∙ c.if-not-has_field.false)
