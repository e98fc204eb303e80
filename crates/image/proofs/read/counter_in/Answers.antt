-- What is left to show of `image::read::counter_in`.
use Rattle.std.proofs.Common.{ℕ, ◌∙◌, ◌%◌, ap}
use Rattle.image.proofs.Numbers.{counter-below}
use Rattle.image.proofs.read.counter_in.Goals as goal

pub returns : goal.returns
returns c = ap (λ (x : ℕ). x % 0x1000000) c.number_at.ensures ∙ counter-below _ (λ i. (c.type_inv.core i).fits)
