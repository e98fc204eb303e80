-- What is left to show of `state::rows::step_counter`.
use Rattle.std.proofs.Common.{arith}
use borrow.Author.Tests.{eq-eqb, ne_eqb}
use Rattle.meaning.specs.Commands.{c47, worked, step_counter, choose}
use Rattle.state.specs.Effects.{effect_on, row_effect}
use Rattle.state.proofs.Answering.{accepts-bare}
use Rattle.state.proofs.rows.step_counter.Goals as goal

pub returns-then-state-eq-LAST_COUNT : goal.returns-then-state-eq-LAST_COUNT
unfolding worked step_counter choose effect_on row_effect
returns-then-state-eq-LAST_COUNT c p l m d w =
    accepts-bare c47 p _ l m d w c.accepted.ensures (rw (eq-eqb _ _ c.if-state-eq-LAST_COUNT.true)) (rw (eq-eqb _ _ c.if-state-eq-LAST_COUNT.true)) tt

pub returns : goal.returns
unfolding worked step_counter choose effect_on row_effect
returns c p l m d w =
    accepts-bare c47 p _ l m d w c.accepted-2.ensures (rw (ne_eqb _ _ c.if-state-eq-LAST_COUNT.false)) (rw (ne_eqb _ _ c.if-state-eq-LAST_COUNT.false))
    (omega (arith, c.requires, c.if-state-eq-LAST_COUNT.false))
