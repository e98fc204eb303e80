-- What is left to show of `wire::bytes::same`.
use Rattle.std.proofs.Common.{◌∙◌}
use Rattle.wire.proofs.Laws.{same_bytes}
use Rattle.wire.proofs.bytes.same.Goals as goal

pub returns : goal.returns
returns c = c.eq.ensures ∙ same_bytes _ _
