-- What is left to show of `tape::text::copy`.
use Rattle.std.proofs.Common.{refl, arith}
use Rattle.tape.proofs.Outputs.{put_copied}
use Rattle.tape.proofs.text.copy.Goals as goal

pub returns : goal.returns
returns c = record { next = refl; bytes = put_copied _ _ _ _ _ c.copy_from_slice.ensures.after (omega arith); within = omega arith }
