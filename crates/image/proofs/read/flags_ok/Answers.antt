-- What is left to show of `image::read::flags_ok`: four flags tested as one word.
use Rattle.std.proofs.Common.{ℕ, ◌∙◌, ap, bit_and, eqb}
use Rattle.image.proofs.Flags.{flags_word}
use Rattle.image.proofs.read.flags_ok.Goals as goal

pub returns : goal.returns
returns c = ap (λ (x : ℕ). eqb (bit_and x 0xFEFEFEFE) 0) c.number_at.ensures ∙ flags_word _ (λ i. (c.type_inv.core i).fits)
