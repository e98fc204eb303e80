-- The rows and lengths of the code, as those of the meaning (01, "The commands"). Assumes nothing.
use Rattle.std.specs.Prelude.{false, Option, Some, None}
use Rattle.meaning.specs.Commands as meaning
use Rattle.wire.specs.declared.table.Length.{Length}
use Rattle.wire.specs.declared.table.Length.TheVariants.{Exactly, Counted, Never}
use Rattle.wire.specs.declared.table.Row.{Row}

abbrev pub length_of : Length → meaning.Length
length_of (Exactly n) = meaning.exactly n
length_of (Counted n) = meaning.counted n
length_of Never = meaning.never

-- an unknown command has none
abbrev pub row_of : Option Row → meaning.Row
row_of (Some r) = meaning.entry (length_of r.request) (length_of r.reply) r.repeats
row_of None = record { known = false; request = meaning.never; reply = meaning.never; repeats = 0 }
