-- What is left to show of `tape::kinds::event_of`: the number of a poll, and of a measured position.
use Rattle.std.proofs.Common.{ℕ, sym, ◌∙◌}
use Rattle.meaning.specs.Run.{poll, measured}
use Rattle.tape.specs.Kinds.{call, call_of}
use Rattle.tape.proofs.Events.{number-said, number-unsaid}
use Rattle.tape.proofs.kinds.event_of.Goals as goal

pub returns-in-Some : goal.returns-in-Some
unfolding call_of
returns-in-Some c = rw c.in-3.is (number-said _ _ (λ (k : ℕ). call (poll k)) (sym c.number_in.ensures ∙ c.in-Some.is))

pub returns-in-None : goal.returns-in-None
unfolding call_of
returns-in-None c = rw c.in-3.is (number-unsaid _ _ (sym c.number_in.ensures ∙ c.in-None.is))

pub returns-in-Some-number_in : goal.returns-in-Some-number_in
unfolding call_of
returns-in-Some-number_in c = rw c.in-4.is (number-said _ _ (λ (k : ℕ). call (measured k)) (sym c.number_in-in-4.ensures ∙ c.in-Some-number_in.is))

pub returns-in-None-number_in : goal.returns-in-None-number_in
unfolding call_of
returns-in-None-number_in c = rw c.in-4.is (number-unsaid _ _ (sym c.number_in-in-4.ensures ∙ c.in-None-number_in.is))
