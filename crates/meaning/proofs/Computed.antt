-- The bench sheet, every row of the table, and the gaps of 219 and 220 ticks, computed. Assumes nothing.
use Prim.Native.Nat.{ℕ}
use mathlib.Core.Path.{◌≡◌, refl, ap}
use mathlib.Core.List.{List, [], ◌∷◌}
use lib.Dec.{T}
use Rattle.meaning.specs.Bytes.{same, zeros, part, put, blank, xor_from, xor_all, among, bytes3, bytes4, number}
use Rattle.meaning.specs.State.{Plate, State, fresh, none, with_line, own_byte, board_byte, with_codes, with_counter, with_address, with_offset, with_queue, code, queued, position, offset_for}
use Rattle.meaning.specs.Fields.{memory_length, blocks, coded, code_no, writable, exists, attributes, table, field_count, used, sound, free_blocks, status_at, start, survey, clear, put_status}
use Rattle.meaning.specs.Commands.{command_of, row, length_fits, asked, error, choose, wrong_code, read_position, set_position, read_counter, step_counter, clear_counter, on_field}
use Rattle.meaning.specs.Commands.{read_field, store_field, field_status, create, resize, modify, delete, shape_field, free_byte, memory_status, set_code, read_fault, read_label, reset, set_address, read_version, worked}
use Rattle.meaning.specs.Run.{Heard, step, run_from, run}
use Rattle.meaning.specs.Characters.{gap, over, more, taken, closed, whole, remaining, full_pause}
use Rattle.meaning.specs.Frames.{resting, close, up_to, command_byte, data_of, ours, judged, ending, sealed, warned, message, still, outcome, leaves, work}
use Rattle.meaning.specs.Sheet.{Case, sheet_plate, fits, holds, all_hold, sheet, SheetHolds, rows, shows, shown, all_shown, RowsReached, polled, GapsClose}
use Rattle.meaning.proofs.Choices.{both_intro}
use Rattle.meaning.proofs.Wire.{same_refl}

-- the replies that the board gives to the lines, one after the other, and those that the lines have
replies : Plate → State → List ℕ → List Heard → List (List ℕ)
replies p s m [] = []
replies p s m (l ∷ ls) =
    let o = work p s m (whole l.asked) in
    o.reply ∷ replies p o.state o.memory ls

answers : List Heard → List (List ℕ)
answers [] = []
answers (l ∷ ls) = l.answered ∷ answers ls

first : List (List ℕ) → List ℕ
first [] = []
first (x ∷ xs) = x

others : List (List ℕ) → List (List ℕ)
others [] = []
others (x ∷ xs) = xs

fits_by : (p : Plate) (s : State) (m : List ℕ) (ls : List Heard) → replies p s m ls ≡ answers ls → T (fits p s m ls)
unfolding fits replies answers first others
fits_by p s m [] e = tt
fits_by p s m (l ∷ ls) e =
    let o = work p s m (whole l.asked) in
    both_intro (same o.reply l.answered) (fits p o.state o.memory ls) (rw (ap first e) (same_refl l.answered)) (fits_by p o.state o.memory ls (ap others e))

-- the replies of each case are the sheet's
AllTold : List Case → Type 0
AllTold [] = Unit
AllTold (c ∷ cs) = (replies (sheet_plate c.total) (with_counter (fresh (sheet_plate c.total)) c.counter) (zeros (memory_length c.total)) c.lines ≡ answers c.lines) × AllTold cs

all_hold_lem : (cs : List Case) → AllTold cs → T (all_hold cs)
unfolding all_hold holds AllTold
all_hold_lem [] t = tt
all_hold_lem (c ∷ cs) t = both_intro (holds c) (all_hold cs) (fits_by (sheet_plate c.total) _ _ c.lines t.0) (all_hold_lem cs t.1)

pub sheet-holds : SheetHolds
unfolding replies answers AllTold sheet all_hold holds fits same work leaves still whole outcome message warned sealed ours ending judged data_of
    command_byte own_byte worked command_of row length_fits asked part put blank xor_from xor_all among bytes3 bytes4 number blocks coded code_no writable
    exists attributes table field_count used sound free_blocks status_at start survey fresh none with_codes with_counter with_address with_offset with_queue code queued position
    offset_for error choose clear put_status wrong_code read_position set_position read_counter step_counter clear_counter on_field read_field store_field
    field_status create resize modify delete shape_field free_byte memory_status set_code read_fault read_label reset set_address read_version board_byte
sheet-holds = all_hold_lem sheet (refl, (refl, (refl, (refl, (refl, tt)))))

pub rows-reached : RowsReached
unfolding rows all_shown shown shows holds fits same work leaves still whole outcome message warned sealed ours ending judged data_of command_byte
    own_byte worked command_of row length_fits asked part put blank xor_from xor_all among bytes3 bytes4 number blocks coded code_no writable exists attributes table
    field_count used sound free_blocks status_at start survey fresh none with_codes with_counter with_address with_offset with_queue code queued position offset_for error
    choose clear put_status wrong_code read_position set_position read_counter step_counter clear_counter on_field read_field store_field field_status create
    resize modify delete shape_field free_byte memory_status set_code read_fault read_label reset set_address read_version board_byte
rows-reached = tt

pub gaps_close : GapsClose
unfolding polled run run_from step up_to close closed resting over remaining full_pause gap taken more with_line same work leaves still whole outcome message warned sealed
    ours ending judged data_of command_byte own_byte worked command_of row length_fits asked part put blank xor_from xor_all among bytes3 bytes4 number
    blocks coded code_no writable exists attributes table field_count used sound free_blocks status_at start survey fresh none with_codes with_counter with_address with_offset
    with_queue code queued position offset_for error choose clear put_status wrong_code read_position set_position read_counter step_counter clear_counter
    on_field read_field store_field field_status create resize modify delete shape_field free_byte memory_status set_code read_fault read_label reset set_address read_version board_byte
gaps_close = tt
