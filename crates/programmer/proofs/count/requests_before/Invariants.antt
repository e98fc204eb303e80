-- What is counted and what is left to count come to the same as at the start, for the first so many fields and for all.
use Rattle.std.proofs.Common.{◌≡◌, ◌+◌, ◌-◌, take}
use Rattle.programmer.specs.Steps.{requests_for}
use Rattle.programmer.specs.Reading.{fields_left}
use Rattle.programmer.proofs.count.requests_before.Given as goal

abbrev pub invariant-loop : goal.invariant-loop
invariant-loop l = record {
  first : l.requests + requests_for (take (l.many - l.counter) (fields_left l.fields)) ≡ requests_for (take l.many (fields_left l.initial.fields));
  sum : l.requests + requests_for (fields_left l.fields) ≡ requests_for (fields_left l.initial.fields);
}
