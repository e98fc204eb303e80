-- What a record at a place of the window says. Assumes nothing.
use Rattle.std.specs.Prelude.{ℕ, ◌+◌, ◌≤◌, ◌<◌, ◌≡◌, List, Option, None, Some, Result, Ok, Err, length, drop}
use Rattle.records.specs.declared.record.Unread.{Unread}
use Rattle.records.specs.declared.record.Unread.TheVariants.{More, Bad}
use Rattle.records.specs.Records.{whole_length}
use Rattle.tape.specs.Kinds.{Said, unfit, call_of}
use Rattle.records.specs.Reader.{Whole, read_at}
use Rattle.tape.specs.Reader.{said_of}
use Rattle.tape.specs.Passes as passes
use Rattle.tape.specs.Passes.{longest_record}
use Rattle.turns.specs.declared.reading.Heard.{Heard}

-- not yet a whole record; what stands there says, and the place past it
pub data Readout : Type 0 where
  not_yet : Readout
  tells : Said → ℕ → Readout

abbrev pub readout_of : Option Heard → Readout
readout_of None = not_yet
readout_of (Some h) = tells (said_of h.event) h.next

-- where no record begins, what stands there fits nothing and has no end
unfoldable pub readout_by : ℕ → Result Whole Unread → Readout
readout_by at (Ok w) = tells (call_of w.kind w.body) w.next
readout_by at (Err More) = not_yet
readout_by at (Err Bad) = tells unfit at

abbrev pub readout_at : ℕ → List ℕ → Readout
readout_at at window = readout_by at (read_at longest_record at (drop at window))

-- the same in the words of a pass
abbrev pub heard_in : Readout → passes.NextRecord
heard_in not_yet = passes.incomplete
heard_in (tells x n) = passes.says x

-- the place past a whole record
pub record Past (at : ℕ) (window : List ℕ) (next : ℕ) : Type 0 where
  pub whole : next ≡ at + whole_length (drop at window)
  pub onward : at < next
  pub inside : next ≤ length window

abbrev pub Onward : ℕ → List ℕ → Readout → Type 0
Onward at window not_yet = Unit
Onward at window (tells x n) = (x ≡ unfit → ⊥) → Past at window n

pub record Hears (at : ℕ) (window : List ℕ) (x : Readout) : Type 0 where
  pub heard : heard_in x ≡ passes.next_record (drop at window)
  pub next : Onward at window x
