-- What is left to show of `state::state::State::is_ok`.
use Rattle.std.proofs.Common.{sym, ◌∙◌, rules}
use borrow.Author.Tests.{le-leb, lt-leb}
use Rattle.state.proofs.Places.{sound_none, sound-some}
use Rattle.state.proofs.States.{within}
use Rattle.state.proofs.state.State.is_ok.Goals as goal

pub returns-then-self-gt-LAST_COUNT : goal.returns-then-self-gt-LAST_COUNT
returns-then-self-gt-LAST_COUNT c p l e few = within _ p l (search rules) few (simp (lt-leb _ _ c.if-self-gt-LAST_COUNT.true))

pub returns-then-self-gt-LAST_ADDRESS : goal.returns-then-self-gt-LAST_ADDRESS
returns-then-self-gt-LAST_ADDRESS c p l e few =
    within _ p l (search rules) few
    (simp (
      le-leb _ _ c.if-self-gt-LAST_COUNT.false,
      lt-leb _ _ c.if-self-gt-LAST_ADDRESS.true,
    ))

pub returns-then-not-offset_fits : goal.returns-then-not-offset_fits
returns-then-not-offset_fits c p l e few =
    within _ p l (search rules) few
    (simp (
      e,
      le-leb _ _ c.if-self-gt-LAST_COUNT.false,
      le-leb _ _ c.if-self-gt-LAST_ADDRESS.false,
      sym c.offset_fits.ensures ∙ c.if-not-offset_fits.true,
    ))

pub returns-then-not-waits : goal.returns-then-not-waits
returns-then-not-waits c p l e few =
    within _ p l (search rules) few
    (simp (
      e,
      le-leb _ _ c.if-self-gt-LAST_COUNT.false,
      le-leb _ _ c.if-self-gt-LAST_ADDRESS.false,
      sym c.offset_fits.ensures ∙ c.if-not-offset_fits.false,
      sound_none _ (sym c.waits.ensures ∙ c.if-not-waits.true),
    ))

pub returns : goal.returns
returns c p l e few =
    within _ p l (search rules) few
    (simp (
      e,
      le-leb _ _ c.if-self-gt-LAST_COUNT.false,
      le-leb _ _ c.if-self-gt-LAST_ADDRESS.false,
      sym c.offset_fits.ensures ∙ c.if-not-offset_fits.false,
      sound-some _ (sym c.waits.ensures ∙ c.if-not-waits.false) c.waits_apart.ensures,
    ))
