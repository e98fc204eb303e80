-- What the tape's readers answer, by the definitions of the label tape. Assumes nothing.
use Rattle.std.specs.Prelude.{ℕ, ◌+◌, ◌≤◌, ◌<◌, ◌≡◌, true, false, List, length, drop, Option, Some, None}
use Rattle.meaning.specs.Bytes.{most_count}
use Rattle.records.specs.Records.{whole, cut, record_at, whole_length}
use Rattle.records.specs.declared.record.Record.{Record}
use Rattle.programmer.specs.Wishes.{Field, Wish, wanted, body_of, is_field, fields_from}
use Rattle.programmer.specs.declared.step.Step.{Step}
use Rattle.programmer.specs.declared.step.Step.TheVariants.{Count, Look, Remove, Create, Store, Read, Lock}
use Rattle.programmer.specs.declared.wish.Fields.{Fields}
use Rattle.programmer.specs.declared.wish.Wanted.{Wanted}

-- a whole record, and the next one begins past it
pub record RecordLies (s : List ℕ) (at : ℕ) (e : Record) : Type 0 where
  pub record_is : record_at (drop at s) ≡ whole e.kind e.body.now
  pub past : e.next.at ≡ at + whole_length (drop at s)

abbrev pub RecordStands : List ℕ → ℕ → Option Record → Type 0
RecordStands s at (Some e) = RecordLies s at e
RecordStands s at None = record_at (drop at s) ≡ cut

-- a field's record
pub record FieldLies (s : List ℕ) (at : ℕ) (e : Record) : Type 0 where
  pub is : is_field (record_at (drop at s)) ≡ true
  pub body : body_of (record_at (drop at s)) ≡ e.body.now
  pub past : e.next.at ≡ at + whole_length (drop at s)

abbrev pub FieldAt : List ℕ → ℕ → Option Record → Type 0
FieldAt s at (Some e) = FieldLies s at e
FieldAt s at None = is_field (record_at (drop at s)) ≡ false

-- a wanted field as the code holds it, and the wanted fields from a place of the tape on
abbrev pub field_as : Wanted → Field
field_as w = record { status = w.status; bytes = w.bytes.now }

abbrev pub fields_left : Fields → List Field
fields_left x = fields_from x.left (drop x.at x.tape.now)

-- wanted field i
pub record FoundField (l : Wish) (i : ℕ) (w : Wanted) : Type 0 where
  pub there : i < length l.fields
  pub is : wanted l i ≡ field_as w
  pub few : length w.bytes.now ≤ most_count
  pub low : i < 256

abbrev pub Finds : Wish → ℕ → Option Wanted → Type 0
Finds l i (Some w) = FoundField l i w
Finds l i None = length l.fields ≤ i

-- wanted field i, or status 00h and no bytes
pub record Wants (l : Wish) (i : ℕ) (w : Wanted) : Type 0 where
  pub status_is : (wanted l i).status ≡ w.status
  pub bytes_are : (wanted l i).bytes ≡ w.bytes.now
  pub few : length w.bytes.now ≤ most_count

-- the wanted field of which a step is, 0 where it is of none
abbrev pub field_of : Step → ℕ
field_of Count = 0
field_of (Look k) = 0
field_of (Remove k st) = 0
field_of (Create i) = i
field_of (Store i) = i
field_of (Read i) = i
field_of (Lock i) = i
