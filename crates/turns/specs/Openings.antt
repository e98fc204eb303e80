-- The first record of a tape (01, "plate .., first and once"). Assumes nothing.
use Rattle.std.specs.Prelude.{ℕ, ◌≤◌, ◌≡◌, true, List, [], Result, Ok, Err, length}
use Rattle.meaning.specs.Bytes.{pick, zeros}
use Rattle.meaning.specs.State as meaning
use Rattle.meaning.specs.State.{label_length, plate_ok, fresh}
use Rattle.meaning.specs.Fields.{memory_length}
use Rattle.line.specs.declared.plate.Plate.{Plate}
use Rattle.line.specs.Line.{plate_of}
use Rattle.records.specs.Records.{whole_length}
use Rattle.records.specs.declared.record.Unread.{Unread}
use Rattle.records.specs.declared.record.Unread.TheVariants.{More, Bad}
use Rattle.tape.specs.Kinds.{Said, plate, call, unfit}
use Rattle.tape.specs.Answers.{opening, running, bad_record, turn}
use Rattle.tape.specs.Passes as passes
use Rattle.turns.specs.Hearing.{Readout, not_yet, tells}
use Rattle.turns.specs.declared.opening.Opened.{Opened}

-- a plate of the tape; 02, Req 01, of the label bytes: "on the tape they are all zero"
abbrev pub tape_plate : Plate → meaning.Plate
tape_plate p = plate_of p (zeros label_length)

-- the code's plate has the meaning's numbers
abbrev pub numbers_of : meaning.Plate → Plate
numbers_of p = record { total = p.total; bits = p.bits; address = p.address; ticks = p.ticks; pause = p.pause }

unfoldable pub checked : meaning.Plate → ℕ → Result Opened Unread
checked p next = pick (plate_ok p) (Ok (record { plate = numbers_of p; next = next })) (Err Bad)

abbrev pub begun_by : Said → ℕ → Result Opened Unread
begun_by (plate p) next = checked p next
begun_by (call g) next = Err Bad
begun_by unfit next = Err Bad

abbrev pub opened_by : Readout → Result Opened Unread
opened_by not_yet = Err More
opened_by (tells x next) = begun_by x next

-- the window begins with a good plate
pub record Begins (window : List ℕ) (p : Plate) (next : ℕ) (x : Said) : Type 0 where
  pub good : plate_ok (tape_plate p) ≡ true
  pub heard : passes.next_record window ≡ passes.says x
  pub turned : (place : ℕ) → turn opening place x ≡ record { stage = running (tape_plate p) (fresh (tape_plate p)) (zeros (memory_length p.total)); printed = [] }
  pub whole : next ≡ whole_length window
  pub inside : next ≤ length window

-- or with a record that is bad there
pub record Fails (window : List ℕ) (x : Said) : Type 0 where
  pub heard : passes.next_record window ≡ passes.says x
  pub turned : (place : ℕ) → turn opening place x ≡ bad_record place

abbrev pub Opens : List ℕ → Result Opened Unread → Type 0
Opens window (Ok o) = (x : Said) × Begins window o.plate o.next x
Opens window (Err More) = passes.next_record window ≡ passes.incomplete
Opens window (Err Bad) = (x : Said) × Fails window x
