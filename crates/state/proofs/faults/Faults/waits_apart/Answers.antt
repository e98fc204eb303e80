-- What is left to show of `state::faults::Faults::waits_apart`.
use Rattle.std.proofs.Common.{sym, ◌∙◌}
use borrow.Author.Tests.{ne_eqb}
use Rattle.state.proofs.Places.{four_apart, apart_so}
use Rattle.state.proofs.faults.Faults.waits_apart.Goals as goal

pub returns : goal.returns
unfolding four_apart
returns c =
    apart_so _ (ne_eqb _ _ c.if-self-eq0.false)
    (simp (
      sym c.locks.ensures ∙ c.if-locks.false,
      ne_eqb _ _ c.if-self.false,
      sym c.locks-2.ensures ∙ c.if-locks-2.false,
      ne_eqb _ _ c.if-self-eq0-2.false,
      ne_eqb _ _ c.if-self-eq0-3.false,
      sym c.is_among.ensures ∙ c.if-is_among.false,
      sym c.is_among-2.ensures ∙ c.if-is_among-2.false,
      sym c.locks-3.ensures ∙ c.if-locks-3.false,
      ne_eqb _ _ c.if-self-2.false,
      sym c.locks-4.ensures,
    ))
