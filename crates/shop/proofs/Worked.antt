-- A whole run, computed: a read-only field with a code is deleted, and a read-only field of one block made. Assumes nothing.
use mathlib.Core.Path.{◌≡◌, refl}
use Prim.Native.Nat.{ℕ}
use mathlib.Core.List.{List, [], ◌∷◌, ◌++◌}
use Rattle.meaning.specs.Bytes.{part, put, zeros, blank, xor_from, xor_all, same, little}
use Rattle.meaning.specs.State.{Plate, fresh, none, code, own_byte, board_byte}
use Rattle.meaning.specs.State as board
use Rattle.meaning.specs.Fields.{blocks, coded, code_no, writable, exists, attributes, table, field_count, used, sound, free_blocks, status_at, survey, clear, put_status}
use Rattle.meaning.specs.Commands.{command_of, row, length_fits, asked, error, choose, wrong_code, on_field, read_field, store_field, field_status, create, resize, modify, delete, shape_field, free_byte, memory_status, worked}
use Rattle.meaning.specs.Frames.{command_byte, data_of, sealed, warned, message, outcome}
use Rattle.meaning.specs.Bench.{in_range, allowed, address_ok, address_for, address_byte, request, written, bad, branch, warning, bare, from_asked, right_address, error_reply, right_length, repeated, content, judge}
use Rattle.meaning.specs.Demands.{meant}
use Rattle.records.specs.Records.{length_at, record_at}
use Rattle.programmer.specs.Wishes.{body_of, is_field, of_its_size, fields_from, wish_of}
use Rattle.programmer.specs.Steps.{enabled, due, making, clearing, locking, onto, on_verdict, bytes_due, after_reply}
use Rattle.programmer.specs.declared.step.Step.TheVariants.{Count}
use Rattle.programmer.specs.declared.step.Standing.TheVariants.{At, Done}
use Rattle.programmer.proofs.Worked.{codes, sixteen, field}
use Rattle.shop.specs.Promises.{talked, talked_on}

abbrev plate : Plate
plate = record { total = 8; bits = 24; address = 0; ticks = 4; pause = 55; label = zeros 41 }

-- a field of two blocks, read-only, with a code
abbrev before : List ℕ
before = zeros 128 ++ (0x89 ∷ zeros 7)

abbrev seven : List board.State
seven = fresh plate ∷ fresh plate ∷ fresh plate ∷ fresh plate ∷ fresh plate ∷ fresh plate ∷ fresh plate ∷ []

pub run_example : talked_on plate 0 (wish_of (codes ++ field)) seven (record { standing = At Count; memory = before })
    ≡ record { standing = Done; memory = sixteen ++ (zeros 112 ++ (0x80 ∷ zeros 7)) }
unfolding talked_on talked after_reply bytes_due on_verdict onto locking clearing making due enabled wish_of fields_from body_of is_field of_its_size record_at length_at little
    part put blank xor_from xor_all same fresh none code own_byte board_byte blocks coded code_no writable exists attributes table field_count used sound free_blocks
    status_at survey clear put_status command_of row length_fits asked error choose wrong_code on_field read_field store_field field_status create resize modify delete shape_field
    free_byte memory_status worked command_byte data_of sealed warned message outcome in_range allowed address_ok address_for address_byte request written bad branch warning
    bare from_asked right_address error_reply right_length repeated content judge meant
run_example = refl
