-- What is left to check, with no wrong size so far, comes to the whole check.
use Rattle.std.proofs.Common.{◌≡◌, ◌-◌, drop}
use Rattle.programmer.specs.Wishes.{good, checked_from}
use Rattle.programmer.proofs.wish.check_fields.Given as goal

abbrev pub invariant-loop-before : goal.invariant-loop-before
invariant-loop-before l = checked_from (256 - l.before) good l.at (drop l.at l.tape) ≡ checked_from 256 good 8 (drop 8 l.tape)
