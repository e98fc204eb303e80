-- Worked tapes: document 01's own, and a bad one. Assumes nothing.
use Prim.Native.Nat.{ℕ}
use mathlib.Core.List.{List, [], ◌∷◌, ◌++◌}
use lib.ListN.{take}
use lib.Dec.{T}
use Rattle.meaning.specs.Bytes.{same, part, put, blank, xor_from, xor_all, among, little}
use Rattle.meaning.specs.State.{plate_ok, fresh, none, with_line, own_byte}
use Rattle.meaning.specs.Fields.{blocks, exists, table, field_count, used, sound, free_blocks, status_at, survey}
use Rattle.meaning.specs.Commands.{command_of, row, length_fits, asked, error, free_byte, memory_status, worked}
use Rattle.meaning.specs.Characters.{gap, over, more, taken, closed, remaining, full_pause}
use Rattle.meaning.specs.Frames.{resting, close, up_to, command_byte, data_of, ours, judged, ending, sealed, warned, message, still, outcome, leaves, work}
use Rattle.meaning.specs.Run.{step}
use Rattle.records.specs.Records.{length_at, record_at}
use Rattle.tape.specs.Kinds.{sized, character_in, call_of, said_by}
use Rattle.tape.specs.Text.{decimal_in, decimal_of, digit_of, hex_of, reply_line, first_line, bad_line}
use Rattle.tape.specs.Answers.{printed_of, bad_record, begun, stepped, turn, answers_from, answers_of}

-- 01, "Tape:"
abbrev tape : List ℕ
tape =
    0x07 ∷ 0x00 ∷ 0x01 ∷ 0x00 ∷ 0x70 ∷ 0x18 ∷ 0x00 ∷ 0x04 ∷ 0x37 ∷ 0x08 ∷ 0x00 ∷ 0x02 ∷ 0x00 ∷ 0x00 ∷ 0x00 ∷ 0x00 ∷ 0x00 ∷ 0x40 ∷ 0x00 ∷ 0x08
    ∷ 0x00 ∷ 0x02 ∷ 0x00 ∷ 0x2C ∷ 0x00 ∷ 0x00 ∷ 0x00 ∷ 0x4E ∷ 0x00 ∷ 0x08 ∷ 0x00 ∷ 0x02 ∷ 0x00 ∷ 0x58 ∷ 0x00 ∷ 0x00 ∷ 0x00 ∷ 0x0E ∷ 0x00 ∷ 0x06
    ∷ 0x00 ∷ 0x03 ∷ 0x00 ∷ 0x34 ∷ 0x01 ∷ 0x00 ∷ 0x00 ∷ []

-- `308 40 4E 70 00 7E`
abbrev answer : List ℕ
answer =
    51 ∷ 48 ∷ 56 ∷ 32 ∷ 52 ∷ 48 ∷ 32 ∷ 52 ∷ 69 ∷ 32 ∷ 55 ∷ 48 ∷ 32 ∷ 48 ∷ 48 ∷ 32 ∷ 55 ∷ 69 ∷ 10 ∷ []

pub prints : T (same (answers_of tape) (first_line ++ answer))
unfolding same part put blank xor_from xor_all among plate_ok fresh none with_line own_byte blocks exists table field_count used sound free_blocks status_at
    survey command_of row length_fits asked error free_byte memory_status worked gap full_pause remaining over more taken closed resting close up_to command_byte data_of ours
    judged ending sealed warned message still outcome leaves work step little length_at record_at sized character_in call_of said_by decimal_in decimal_of
    digit_of hex_of reply_line first_line bad_line printed_of bad_record begun stepped turn answers_from answers_of
prints = tt

-- the poll's record, cut by a byte: its place is 39
pub cut_short : T (same (answers_of (take 46 tape)) (first_line ++ (98 ∷ 97 ∷ 100 ∷ 32 ∷ 51 ∷ 57 ∷ 10 ∷ [])))
unfolding same part put blank xor_from xor_all among plate_ok fresh none with_line own_byte gap full_pause remaining over more taken up_to still step little
    length_at record_at sized character_in call_of said_by decimal_in decimal_of first_line bad_line printed_of bad_record begun stepped turn answers_from
    answers_of
cut_short = tt

-- 01, "first and once": a second plate is bad, at place 9
pub plate_once : T (same (answers_of (take 9 tape ++ take 9 tape)) (first_line ++ (98 ∷ 97 ∷ 100 ∷ 32 ∷ 57 ∷ 10 ∷ [])))
unfolding same part among plate_ok fresh none little length_at record_at sized call_of said_by decimal_in decimal_of first_line bad_line bad_record begun turn answers_from answers_of
plate_once = tt
