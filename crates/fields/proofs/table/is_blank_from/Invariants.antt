-- What is left behind the fours passed tells whether all of it is blank.
use Rattle.std.proofs.Common.{◌*◌, ◌≡◌, drop}
use Rattle.meaning.specs.Bytes.{blank}
use Rattle.fields.proofs.table.is_blank_from.Given as goal

abbrev pub invariant-loop-four : goal.invariant-loop-four
invariant-loop-four l = blank (drop l.place l.statuses) ≡ blank (drop (4 * l.four-index) (drop l.place l.statuses))
