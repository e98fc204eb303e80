-- What is left to show of `image::read::address_ok`.
use Rattle.std.proofs.Common.{ℕ, ◌∙◌, ap, leb}
use Rattle.image.proofs.Numbers.{address_above}
use Rattle.image.proofs.read.address_ok.Goals as goal

pub returns : goal.returns
returns c = ap (λ (x : ℕ). leb x 0x1FFFFFFF) c.number_at.ensures ∙ address_above _ (λ i. (c.type_inv.core i).fits)
