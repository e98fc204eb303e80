-- What the reader answers. Assumes nothing.
use Rattle.std.specs.Prelude.{ℕ, ◌+◌, ◌-◌, ◌≡◌, List, length, ltb, Result, Ok, Err, IfOk}
use Rattle.std.specs.Result.{result_map_both}
use Rattle.meaning.specs.Bytes.{pick, part, little}
use Rattle.records.specs.Records.{length_at, whole_length}
use Rattle.records.specs.declared.record.Record.{Record}
use Rattle.records.specs.declared.record.Unread.{Unread}
use Rattle.records.specs.declared.record.Unread.TheVariants.{More, Bad}

-- a whole record: its kind, where its body starts, the body, and the place past it
pub record Whole : Type 0 where
  pub kind : ℕ
  pub start : ℕ
  pub body : List ℕ
  pub next : ℕ

abbrev pub read_as : Result Record Unread → Result Whole Unread
read_as r = result_map_both (λ (w : Record). record { kind = w.kind; start = w.start; body = w.body.now; next = w.next.at }) (λ (e : Unread). e) r

-- the body lies in the window, which stands at a place of memory, where the answer says
abbrev pub LiesIn : ℕ × ℕ → Result Record Unread → Type 0
LiesIn place r = IfOk r (λ (w : Record). w.body.ref_ptr ≡ (place.0, w.start + place.1))

-- what stands at the front of t, which begins at a place of the window: More where the window ends before the record does, Bad where
-- no record begins so: its length is too short for a kind, or is over the longest that the reader's kinds have
unfoldable pub read_at : ℕ → ℕ → List ℕ → Result Whole Unread
read_at longest at t =
    pick (ltb (length t) 4) (Err More)
    (pick (ltb (length_at t) 2) (Err Bad)
    (pick (ltb longest (length_at t)) (Err Bad)
    (pick (ltb (length t) (whole_length t)) (Err More)
    (Ok (record { kind = little (part t 2 2); start = at + 4; body = part t 4 (length_at t - 2); next = at + whole_length t })))))
