-- The label tape: its records, what is wrong with it, and the wish that it holds (02, Req 04). Assumes nothing.
use Rattle.std.specs.Prelude.{ℕ, zero, suc, ◌+◌, Bool, false, List, [], ◌∷◌, length, drop, get_or, eqb, Result, Ok, Err}
use Rattle.meaning.specs.Bytes.{pick, both, arg, part}
use Rattle.meaning.specs.Fields.{bytes_of, blocks, exists, code_no}
use Rattle.records.specs.Records.{Found, whole, cut, record_at, whole_length}
use Rattle.programmer.specs.declared.wish.TapeFault.{TapeFault}
use Rattle.programmer.specs.declared.wish.TapeFault.TheVariants.{BadRecord, WrongSize}

-- "kind 21h for each field (status with bit 7 set, then exactly its bytes)"
pub record Field : Type 0 where
  pub status : ℕ
  pub bytes : List ℕ

-- "kind 20h with the four access codes, then kind 21h for each field .. in number order": what the shop wants on the board
pub record Wish : Type 0 where
  pub codes : List ℕ
  pub fields : List Field

abbrev pub field_in : List ℕ → Field  -- the body of a record of kind 21h
field_in b = record { status = arg b 0; bytes = drop 1 b }

abbrev pub no_field : Field  -- past the last wanted field
no_field = record { status = 0; bytes = [] }

abbrev pub wanted : Wish → ℕ → Field  -- field i, its number being its place
wanted l i = get_or l.fields i no_field

-- the code that a status names, by the tape
abbrev pub code_for : Wish → ℕ → ℕ
code_for l st = get_or l.codes (code_no st) 0

unfoldable pub body_of : Found → List ℕ  -- "records of length, two-byte kind and body"
body_of (whole k b) = b
body_of cut = []

-- "first and once kind 20h with the four access codes": a record of eight bytes, behind which the fields come
unfoldable pub is_codes : Found → Bool
is_codes (whole k b) = both (eqb k 0x20) (eqb (length b) 4)
is_codes cut = false

-- "then kind 21h for each field (status with bit 7 set ..": not another kind, not without a body, not cut short
unfoldable pub is_field : Found → Bool
is_field (whole k b) = both (eqb k 0x21) (exists (arg b 0))
is_field cut = false

-- ".. then exactly its bytes)": the body has the field's size
unfoldable pub of_its_size : List ℕ → Bool
of_its_size b = eqb (length b) (1 + bytes_of (blocks (arg b 0)))

-- what the check of a tape says: good, or what is wrong
abbrev pub Checked : Type 0
Checked = Result (Unit {0}) TapeFault

abbrev pub good : Checked
good = Ok tt

-- the first wrong size is remembered
unfoldable pub first_wrong : Checked → Bool → ℕ → Checked
first_wrong (Ok u) fits at = pick fits (Ok u) (Err (WrongSize at))
first_wrong (Err e) fits at = Err e

-- "Refusals, in order: bad tape record; body not the field's size", each at the place of its record's first byte. A bad record ends it, wherever it
-- stands; c is the first wrong size so far, n how many fields may still come (a field's number is one byte, so 256 in all)
unfoldable pub checked_from : ℕ → Checked → ℕ → List ℕ → Checked
checked_from zero c at [] = c
checked_from zero c at (x ∷ t) = Err (BadRecord at)
checked_from (suc n) c at [] = c
checked_from (suc n) c at (x ∷ t) =
    let r = record_at (x ∷ t) in
    let k = whole_length (x ∷ t) in
    pick (is_field r) (checked_from n (first_wrong c (of_its_size (body_of r)) at) (at + k) (drop k (x ∷ t))) (Err (BadRecord at))

unfoldable pub checked_tape : List ℕ → Checked  -- "The whole tape is checked before the first request"
checked_tape t = pick (is_codes (record_at t)) (checked_from 256 good 8 (drop 8 t)) (Err (BadRecord 0))

-- "in number order": the fields at the front of what is left of a tape, up to the first record that is none or not of its size
unfoldable pub fields_from : ℕ → List ℕ → List Field
fields_from zero t = []
fields_from (suc n) t =
    let r = record_at t in pick (both (is_field r) (of_its_size (body_of r))) (field_in (body_of r) ∷ fields_from n (drop (whole_length t) t)) []

unfoldable pub wish_of : List ℕ → Wish  -- "a label tape"
wish_of t = record { codes = part t 4 4; fields = fields_from 256 (drop 8 t) }
