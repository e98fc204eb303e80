-- What is left to show of `wire::number::number_at`.
use Rattle.std.proofs.Common.{◌∙◌, sym}
use Rattle.wire.proofs.Numbers.{four_bytes, little-at}
use Rattle.wire.proofs.number.number_at.Goals as goal

pub returns : goal.returns
returns c = c.from_le_bytes.ensures ∙ four_bytes _ _ _ _ ∙ sym (little-at _ _)
