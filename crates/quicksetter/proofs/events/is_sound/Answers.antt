-- What is left to show of `quicksetter::events::is_sound`: of no code, one code and more.
use Rattle.std.proofs.Common.{sym, ◌∙◌}
use Rattle.quicksetter.proofs.Refusing.{none_wait, one_waits, more_wait}
use Rattle.quicksetter.proofs.events.is_sound.Goals as goal

pub returns-then-waiting-eq0 : goal.returns-then-waiting-eq0
returns-then-waiting-eq0 c = none_wait _ (sym c.number_at-waiting.ensures ∙ c.if-waiting-eq0.true)

pub returns-then-waiting-lt256 : goal.returns-then-waiting-lt256
returns-then-waiting-lt256 c =
    one_waits _ (λ e. c.if-waiting-eq0.false (c.number_at-waiting.ensures ∙ e)) (rw c.number_at-waiting.ensures at c.if-waiting-lt256.true)
    (rw c.number_at-waiting.ensures at c.locks.ensures)

pub returns : goal.returns
returns c = more_wait _ (λ e. c.if-waiting-eq0.false (c.number_at-waiting.ensures ∙ e)) (rw c.faults_in.ensures at c.waits_apart.ensures)
