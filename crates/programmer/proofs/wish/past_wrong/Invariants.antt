-- What is left to check, past the first wrong size, comes to the whole check from there.
use Rattle.std.proofs.Common.{◌≡◌, ◌-◌, drop}
use Rattle.std.specs.Prelude.{Err}
use Rattle.programmer.specs.Wishes.{checked_from}
use Rattle.programmer.proofs.wish.past_wrong.Given as goal

abbrev pub invariant-loop : goal.invariant-loop
invariant-loop l = checked_from (l.many - l.counter) (Err l.wrong) l.at (drop l.at l.tape) ≡ checked_from l.many (Err l.wrong) l.from (drop l.from l.tape)
