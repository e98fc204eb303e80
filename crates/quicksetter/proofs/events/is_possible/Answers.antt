-- What is left to show of `quicksetter::events::is_possible`.
use Rattle.std.proofs.Common.{sym, ◌∙◌, arith}
use borrow.Author.Tests.{le-leb}
use Rattle.meaning.proofs.Choices.{both_false}
use Rattle.image.proofs.Numbers.{few-counted}
use Rattle.image.proofs.Round.{good}
use Rattle.quicksetter.specs.Cores.{possible}
use Rattle.quicksetter.proofs.events.is_possible.Goals as goal

pub returns-then-not-is_ok : goal.returns-then-not-is_ok
unfolding possible
returns-then-not-is_ok c = λ l n. simp (sym (c.is_ok.ensures l n) ∙ c.if-not-is_ok.true, both_false)

pub returns-then-not-is_core : goal.returns-then-not-is_core
unfolding possible
returns-then-not-is_core c = λ l n. simp (sym c.is_core.ensures ∙ c.if-not-is_core.true)

pub address_ok-requires : goal.address_ok-requires
address_ok-requires c = omega (arith, (good _ (sym c.is_core.ensures ∙ c.if-not-is_core.false)).all)

pub returns-then-not-address_ok : goal.returns-then-not-address_ok
unfolding possible
returns-then-not-address_ok c =
    λ l n. simp (sym c.is_core.ensures ∙ c.if-not-is_core.false, sym c.address_ok.ensures ∙ c.if-not-address_ok.true, both_false)

pub number_at-requires : goal.number_at-requires
number_at-requires c = omega (arith, (good _ (sym c.is_core.ensures ∙ c.if-not-is_core.false)).all)

pub returns : goal.returns
unfolding possible
returns c =
    let counted = few-counted c.args.core.now (λ i. omega (arith, c.type_inv.core i)) in
    λ l n. simp (
      sym c.is_core.ensures ∙ c.if-not-is_core.false,
      le-leb _ _ counted,
      sym c.address_ok.ensures ∙ c.if-not-address_ok.false,
      sym (c.is_ok.ensures l n) ∙ c.if-not-is_ok.false,
      sym (rw c.number_at.ensures at c.offset_fits.ensures),
    )
