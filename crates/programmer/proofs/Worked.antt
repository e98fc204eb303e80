-- Label tapes and what their check says, computed. Assumes nothing.
use Prim.Native.Nat.{ℕ}
use mathlib.Core.Path.{◌≡◌, refl}
use mathlib.Core.List.{List, [], ◌∷◌, ◌++◌}
use Rattle.std.specs.Prelude.{Err}
use Rattle.meaning.specs.Bytes.{part, little}
use Rattle.meaning.specs.Fields.{blocks, exists, writable}
use Rattle.records.specs.Records.{length_at, record_at}
use Rattle.programmer.specs.Wishes.{body_of, is_codes, is_field, of_its_size, first_wrong, good, checked_from, checked_tape, fields_from, wish_of}
use Rattle.programmer.specs.Steps.{requests_for, in_all}
use Rattle.programmer.specs.declared.wish.TapeFault.TheVariants.{BadRecord, WrongSize}

abbrev pub codes : List ℕ
codes = 0x06 ∷ 0x00 ∷ 0x20 ∷ 0x00 ∷ 0x55 ∷ 0x55 ∷ 0x55 ∷ 0x55 ∷ []

abbrev pub sixteen : List ℕ
sixteen = 1 ∷ 2 ∷ 3 ∷ 4 ∷ 5 ∷ 6 ∷ 7 ∷ 8 ∷ 9 ∷ 10 ∷ 11 ∷ 12 ∷ 13 ∷ 14 ∷ 15 ∷ 16 ∷ []

-- one read-only field of one block
abbrev pub field : List ℕ
field = 0x13 ∷ 0x00 ∷ 0x21 ∷ 0x00 ∷ 0x80 ∷ sixteen

-- too few bytes
abbrev small : List ℕ
small = 0x05 ∷ 0x00 ∷ 0x21 ∷ 0x00 ∷ 0x80 ∷ 1 ∷ 2 ∷ []

-- no tape; codes alone; a field; codes twice; a field without codes; bit 7 clear; a wrong size, and the same before a record that is cut short
pub checks : (checked_tape [] ≡ Err (BadRecord 0))
    × (checked_tape codes ≡ good)
    × (checked_tape (codes ++ field) ≡ good)
    × (checked_tape (codes ++ (field ++ codes)) ≡ Err (BadRecord 29))
    × (checked_tape field ≡ Err (BadRecord 0))
    × (checked_tape (codes ++ (0x03 ∷ 0x00 ∷ 0x21 ∷ 0x00 ∷ 0x7F ∷ [])) ≡ Err (BadRecord 8))
    × (checked_tape (codes ++ (small ++ field)) ≡ Err (WrongSize 8))
    × (checked_tape (codes ++ (small ++ (0x05 ∷ 0x00 ∷ []))) ≡ Err (BadRecord 15))
unfolding body_of is_codes is_field of_its_size first_wrong checked_from checked_tape record_at length_at little part blocks exists
checks = (refl, refl, refl, refl, refl, refl, refl, refl)

-- one field present, one wanted and read-only: 4Eh, 4Ch, 4Dh, then 4Dh, 4Bh, 4Ah, 4Dh
pub requests_counted : in_all (wish_of (codes ++ field)) 1 ≡ 7
unfolding in_all requests_for wish_of fields_from body_of is_field of_its_size record_at length_at little part blocks exists writable
requests_counted = refl
