-- What is left to show of `state::faults::Faults::place_for`.
use Rattle.std.proofs.Common.{sym, ◌∙◌}
use borrow.Author.Tests.{eq-eqb}
use Rattle.state.proofs.Places.{place_2_of}
use Rattle.state.proofs.faults.Faults.place_for.Goals as goal

pub returns : goal.returns
returns c =
    place_2_of _ _ (sym c.holds.ensures ∙ c.if-holds.false) (eq-eqb _ _ c.if-self-ne0.false) (eq-eqb _ _ c.if-self-ne0-2.false) (eq-eqb _ _ c.if-self-ne0-3.false)
    (sym c.waits.ensures ∙ c.if-not-waits.false)
