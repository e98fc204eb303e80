-- The front is copied up to the index, the rest is as it was.
use Rattle.std.proofs.Common.{◌≡◌, take, drop, ◌++◌}
use Rattle.wire.proofs.framing.fill.Given as goal

abbrev pub invariant-loop-i : goal.invariant-loop-i
invariant-loop-i l = record { copied : l.dst ≡ take l.i l.src ++ drop l.i l.initial.dst }
