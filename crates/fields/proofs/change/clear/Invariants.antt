-- The blocks passed are 00h, the rest is as it was.
use Rattle.std.proofs.Common.{◌*◌, ◌≡◌, length}
use Rattle.meaning.specs.Bytes.{put, zeros}
use Rattle.fields.proofs.change.clear.Given as goal

abbrev pub invariant-loop-i : goal.invariant-loop-i
invariant-loop-i l = record {
  long : length l.part ≡ length l.initial.part;
  cleared : l.part ≡ put l.initial.part 0 (zeros (16 * l.i));
}
