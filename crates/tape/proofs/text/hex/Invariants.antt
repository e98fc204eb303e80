-- What is left of the bytes, put from the place reached, comes to the whole.
use Rattle.std.proofs.Common.{◌≡◌, ◌+◌, ◌*◌, drop}
use Rattle.meaning.specs.Bytes.{put}
use Rattle.tape.specs.Text.{hex_of}
use Rattle.tape.proofs.text.hex.Given as goal

abbrev pub invariant-loop-b : goal.invariant-loop-b
invariant-loop-b l = record {
  place : l.to ≡ l.at + 3 * l.b-index;
  left : put l.out l.to (hex_of (drop l.b-index l.s)) ≡ put l.initial.out l.at (hex_of l.s);
}
