-- Values of the definitions, computed: for each the two that tell it from a wrong one (docs/CONTRACTS.md, "Rules out"). Assumes nothing.
use Prim.Native.Nat.{ℕ, zero, suc, ◌+◌, ◌*◌, ◌^◌, ◌-◌}
use mathlib.Core.Path.{◌≡◌, refl}
use mathlib.Core.Bool.{true, false}
use mathlib.Core.List.{List, [], ◌∷◌, ◌++◌}
use lib.ListN.{replicate}
use Rattle.meaning.specs.Bytes.{zeros, part, put, blank, among, number, bytes3, bytes4, xor_all, xor_from, same}
use Rattle.meaning.specs.State.{Plate, State, none, plate_ok, fresh, with_codes, with_counter, with_address, with_offset, with_measured, with_queue, with_lock, with_line, locks, queueable, apart, state_ok, code, queued, noted, powered_on, position, offset_for, own_byte, board_byte}
use Rattle.meaning.specs.Fields.{blocks, coded, code_no, writable, exists, attributes, table, field_count, used, sound, free_blocks, status_at, survey, clear, put_status}
use Rattle.meaning.specs.Commands.{command_of, length_fits, counted, row, asked, Answer, refuse, accept, error, choose, wrong_code, read_position, set_position, read_counter, step_counter}
use Rattle.meaning.specs.Commands.{clear_counter, on_field, read_field, store_field, field_status, create, resize, modify, delete, shape_field, free_byte, memory_status, set_code, read_fault, read_label, reset, set_address, read_version}
use Rattle.meaning.specs.Characters.{gap, over, more, remaining, full_pause, no_frame_open, ticks_left}
use Rattle.meaning.specs.Frames.{command_byte, data_of, ours, judged, elsewhere, answered, ending, still, warned, sealed, message, outcome}
use Rattle.meaning.specs.Run.{poll, measured, power_on, step, lends, refused_by}
use Rattle.meaning.specs.Bench.{writes, written, address_ok, address_byte, allowed, in_range, bad, branch, warning, bare, from_asked, right_address, error_reply, right_length, repeated, content, judge, piece_of, handed}

-- so many numbers from one on
abbrev up_from : ℕ → ℕ → List ℕ
up_from n zero = []
up_from n (suc k) = n ∷ up_from (suc n) k

-- the plate of the sheet with eight blocks and label bytes that tell their place, its fresh state and blank memory
abbrev eight : Plate
eight = record { total = 8; bits = 24; address = 0; ticks = 4; pause = 55; label = up_from 1 41 }

abbrev new : State
new = fresh eight

-- a state whose parts all differ
abbrev full : State
full = record { codes = 1 ∷ 2 ∷ 3 ∷ 4 ∷ []; counter = 5; address = 7; offset = 6; measured = 7; queue = 8 ∷ []; locked = true; line = none }

-- three status bytes behind the data of eight blocks, the rest 00h
abbrev tabled : ℕ → ℕ → ℕ → List ℕ
tabled a b c = zeros 128 ++ (a ∷ b ∷ c ∷ zeros 5)

pub plate_values : (plate_ok (record { total = 113; bits = 24; address = 0; ticks = 4; pause = 55; label = zeros 41 }) ≡ false)
    × (plate_ok (record { total = 8; bits = 24; address = 0; ticks = 3; pause = 55; label = zeros 41 }) ≡ false)
    × (plate_ok (record { total = 8; bits = 24; address = 0; ticks = 4; pause = 55; label = zeros 40 }) ≡ false)
unfolding plate_ok among
plate_values = (refl, refl, refl)

-- by the state's address, whatever the plate's
pub own_byte_values : (own_byte (with_address new 31) ≡ 0x5F) × (own_byte new ≡ 0x40)
unfolding own_byte fresh with_address
own_byte_values = (refl, refl)

-- a clock stepped back by one tick, and one that wrapped
pub gap_values : (gap 5 4 ≡ 2 ^ 32 - 1) × (gap (2 ^ 32 - 1) 1 ≡ 2)
unfolding gap
gap_values = (refl, refl)

pub over_values : (over eight (with_line new (record { begun = false; kept = []; sum = 0; longer = false; parity = false; last = 0 })) 1000 ≡ false)
    × (over eight (with_line new (record { begun = true; kept = []; sum = 0; longer = false; parity = false; last = 0 })) 220 ≡ true)
unfolding over remaining full_pause gap with_line
over_values = (refl, refl)

-- 02, Req 03: of a pause of 220 ticks after 0, 219, 220 and 221; with no frame open; a clock stepped back by one tick, and one that wrapped
abbrev since : ℕ → State
since last = with_line new (record { begun = true; kept = []; sum = 0; longer = false; parity = false; last = last })

pub remaining_values : (remaining eight (since 1000) 1000 ≡ ticks_left 220) × (remaining eight (since 1000) 1219 ≡ ticks_left 1) × (remaining eight (since 1000) 1220 ≡ ticks_left 0)
    × (remaining eight (since 1000) 1221 ≡ ticks_left 0) × (remaining eight (with_line new none) 1000 ≡ no_frame_open) × (remaining eight (since 1000) 999 ≡ ticks_left 0)
    × (remaining eight (since (2 ^ 32 - 1)) 9 ≡ ticks_left 210)
unfolding remaining full_pause gap with_line none
remaining_values = (refl, refl, refl, refl, refl, refl, refl)

-- the 136th byte is not kept, and makes the frame longer; a parity fault stays
pub more_values : ((more (record { begun = true; kept = zeros 135; sum = 0; longer = false; parity = true; last = 0 }) 9 7 false).kept ≡ zeros 135)
    × ((more (record { begun = true; kept = zeros 135; sum = 0; longer = false; parity = true; last = 0 }) 9 7 false).longer ≡ true)
    × ((more (record { begun = true; kept = zeros 135; sum = 0; longer = false; parity = true; last = 0 }) 9 7 false).parity ≡ true)
unfolding more
more_values = (refl, refl, refl)

-- parity before checksum; an unknown command before its length; 60h + a is another's
pub ending_values : (ending eight new [] (record { bytes = 0x40 ∷ 0x4E ∷ 0x0F ∷ []; sum = 1; longer = false; parity = true }) ≡ answered (refuse 0x09))
    × (ending eight new [] (record { bytes = 0x40 ∷ 0x44 ∷ 0x00 ∷ 0x04 ∷ []; sum = 0; longer = false; parity = false }) ≡ answered (refuse 0x0B))
    × (ending eight new [] (record { bytes = 0x60 ∷ 0x4E ∷ 0x2E ∷ []; sum = 0; longer = false; parity = false }) ≡ elsewhere)
unfolding ending ours own_byte judged error command_byte command_of row fresh
ending_values = (refl, refl, refl)

-- a fifth code and one that waits already are dropped
pub queued_values : (queued (1 ∷ 2 ∷ 3 ∷ 4 ∷ []) 5 ≡ 1 ∷ 2 ∷ 3 ∷ 4 ∷ []) × (queued (1 ∷ 2 ∷ []) 1 ≡ 1 ∷ 2 ∷ [])
unfolding queued among
queued_values = (refl, refl)

-- 22h locks and does not wait; 00h does nothing
pub noted_values : (noted new 0x22 ≡ with_lock new true) × (noted new 0x00 ≡ new)
unfolding noted locks
noted_values = (refl, refl)

-- the oldest is told and removed; 53h leaves the lock
pub read_fault_values : (read_fault eight (with_queue new (0x1E ∷ 0x08 ∷ [])) [] [] ≡ accept (0x1E ∷ []) (with_queue (with_queue new (0x1E ∷ 0x08 ∷ [])) (0x08 ∷ [])) [])
    × (read_fault eight new [] [] ≡ accept (0x00 ∷ []) (with_queue new []) [])
unfolding read_fault fresh with_queue
read_fault_values = (refl, refl)

pub reset_values : (reset eight (with_lock (with_queue new (0x1E ∷ [])) true) [] [] ≡ Answer.quiet (with_lock new true) []) × ((powered_on (with_lock (with_queue new (0x1E ∷ [])) true)).locked ≡ false)
unfolding reset powered_on fresh with_queue with_lock with_line
reset_values = (refl, refl)

-- power-on empties the queue, unlocks and drops the frame unjudged; codes, counter, address, offset and measured position stay
pub power_on_values : step eight (with_line full (record { begun = true; kept = 9 ∷ []; sum = 9; longer = true; parity = true; last = 9 })) [] power_on
    ≡ still (record { codes = 1 ∷ 2 ∷ 3 ∷ 4 ∷ []; counter = 5; address = 7; offset = 6; measured = 7; queue = []; locked = false; line = none }) []
unfolding step still powered_on with_queue with_lock with_line
power_on_values = refl

-- a measured position is kept as it came, over 2^24 too, and nothing else changes; 42h tells it reduced
pub measured_values : (step eight (with_line full (record { begun = true; kept = 9 ∷ []; sum = 9; longer = true; parity = true; last = 9 })) [] (measured 0xFF000001)
    ≡ still (with_line (with_measured full 0xFF000001) (record { begun = true; kept = 9 ∷ []; sum = 9; longer = true; parity = true; last = 9 })) [])
    × ((with_measured full 0xFF000001).measured ≡ 0xFF000001) × (position eight (with_measured new 0xFF000001) ≡ 1)
unfolding step still position fresh with_measured with_line
measured_values = (refl, refl, refl)

pub warned_values : (warned 0x50 (0x1E ∷ []) ≡ 0xD0) × (warned 0x50 [] ≡ 0x50)
unfolding warned
warned_values = (refl, refl)

-- a code twice; 24h among them
pub apart_values : (apart (1 ∷ 1 ∷ []) ≡ false) × (apart (0x24 ∷ []) ≡ false)
unfolding apart queueable locks among
apart_values = (refl, refl)

pub fresh_values : (code new 3 ≡ 0x55) × ((fresh eight).line.begun ≡ false)
unfolding code fresh none
fresh_values = (refl, refl)

pub state_values : (state_ok eight (with_counter new 0x1000000) ≡ false) × (state_ok eight (with_offset new (2 ^ 24)) ≡ false) × (state_ok eight (with_address new 32) ≡ false)
unfolding state_ok fresh none apart with_counter with_address with_offset
state_values = (refl, refl, refl)

-- the size of P = 32 and of P = 1
pub size_values : (2 ^ 32 ≡ 4294967296) × (2 ^ 1 ≡ 2)
size_values = (refl, refl)

-- each sets its own part, and all else stays
pub with_values : (with_codes full (1 ∷ 9 ∷ 3 ∷ 4 ∷ []) ≡ record { codes = 1 ∷ 9 ∷ 3 ∷ 4 ∷ []; counter = 5; address = 7; offset = 6; measured = 7; queue = 8 ∷ []; locked = true; line = none })
    × (with_counter full 9 ≡ record { codes = 1 ∷ 2 ∷ 3 ∷ 4 ∷ []; counter = 9; address = 7; offset = 6; measured = 7; queue = 8 ∷ []; locked = true; line = none })
    × (with_address full 9 ≡ record { codes = 1 ∷ 2 ∷ 3 ∷ 4 ∷ []; counter = 5; address = 9; offset = 6; measured = 7; queue = 8 ∷ []; locked = true; line = none })
    × (with_offset full 9 ≡ record { codes = 1 ∷ 2 ∷ 3 ∷ 4 ∷ []; counter = 5; address = 7; offset = 9; measured = 7; queue = 8 ∷ []; locked = true; line = none })
    × (with_measured full 9 ≡ record { codes = 1 ∷ 2 ∷ 3 ∷ 4 ∷ []; counter = 5; address = 7; offset = 6; measured = 9; queue = 8 ∷ []; locked = true; line = none })
    × (with_lock (with_queue full (9 ∷ [])) false ≡ record { codes = 1 ∷ 2 ∷ 3 ∷ 4 ∷ []; counter = 5; address = 7; offset = 6; measured = 7; queue = 9 ∷ []; locked = false; line = none })
unfolding with_codes with_counter with_address with_offset with_measured with_queue with_lock
with_values = (refl, refl, refl, refl, refl, refl)

-- high byte first; a locked position is not told
pub position_values : (read_position eight (with_measured new 0x010203) [] [] ≡ accept (0 ∷ 1 ∷ 2 ∷ 3 ∷ []) (with_measured new 0x010203) []) × (read_position eight (with_lock new true) [] [] ≡ refuse 0x02)
unfolding read_position error bytes4 position fresh with_measured with_lock
position_values = (refl, refl)

-- the lock before the code, the code before the position; 2^24 is out of 24 bits, one less is not; the offset is wanted less measured
pub set_position_values : (set_position eight (with_lock new true) [] (0xFF ∷ 0 ∷ 0 ∷ 0 ∷ 0x54 ∷ []) ≡ refuse 0x02)
    × (set_position eight new [] (0xFF ∷ 0 ∷ 0 ∷ 0 ∷ 0x54 ∷ []) ≡ refuse 0x0F)
    × (set_position eight new [] (1 ∷ 0 ∷ 0 ∷ 0 ∷ 0x55 ∷ []) ≡ refuse 0x0D)
    × (set_position eight new [] (0 ∷ 0xFF ∷ 0xFF ∷ 0xFF ∷ 0x55 ∷ []) ≡ accept [] (with_offset new 0xFFFFFF) [])
    × (set_position eight (with_measured new 5) [] (0 ∷ 0 ∷ 0 ∷ 2 ∷ 0x55 ∷ []) ≡ accept [] (with_offset (with_measured new 5) 0xFFFFFD) [])
unfolding set_position error number offset_for code fresh with_lock with_measured with_offset
set_position_values = (refl, refl, refl, refl, refl)

pub counter_values : (read_counter eight (with_counter new 0x010203) [] [] ≡ accept (1 ∷ 2 ∷ 3 ∷ []) (with_counter new 0x010203) [])
    × (step_counter eight (with_counter new 0xFFFFFF) [] [] ≡ accept [] (with_queue (with_counter (with_counter new 0xFFFFFF) 0) (0x08 ∷ [])) [])
    × (clear_counter eight new [] (0x54 ∷ []) ≡ refuse 0x0F)
unfolding read_counter bytes3 step_counter choose clear_counter error code queued among fresh with_counter with_queue
counter_values = (refl, refl, refl)

-- a number over 3 before the old code; the new code is set
pub set_code_values : (set_code eight new [] (4 ∷ 0 ∷ 0 ∷ []) ≡ refuse 0x0D) × (set_code eight new [] (2 ∷ 0x55 ∷ 0x66 ∷ []) ≡ accept (2 ∷ []) (with_codes new (0x55 ∷ 0x55 ∷ 0x66 ∷ 0x55 ∷ [])) [])
unfolding set_code error code fresh with_codes
set_code_values = (refl, refl)

-- the code before the address; 3Fh and 60h are none, 40h and 5Fh are; the reply carries the new address, an error reply the old
pub set_address_values : (set_address eight new [] (0x60 ∷ 0x54 ∷ []) ≡ refuse 0x0F)
    × (set_address eight new [] (0x60 ∷ 0x55 ∷ []) ≡ refuse 0x0D)
    × (set_address eight new [] (0x3F ∷ 0x55 ∷ []) ≡ refuse 0x0D)
    × (set_address eight new [] (0x40 ∷ 0x55 ∷ []) ≡ accept [] (with_address new 0) [])
    × (set_address eight new [] (0x5F ∷ 0x55 ∷ []) ≡ accept [] (with_address new 31) [])
    × ((outcome new [] 0x55 (accept [] (with_address new 5) [])).reply ≡ 0x45 ∷ 0x55 ∷ 0x10 ∷ [])
    × ((outcome new [] 0x55 (refuse 0x0D)).reply ≡ 0x40 ∷ 0x50 ∷ 0x0D ∷ 0x1D ∷ [])
unfolding set_address board_byte error code fresh with_address outcome message sealed xor_all xor_from warned own_byte
set_address_values = (refl, refl, refl, refl, refl, refl, refl)

-- the type label is the plate's first four label bytes, whatever is locked; serial number, version and date are the other 37
pub label_values : (read_label eight (with_lock new true) [] [] ≡ accept (1 ∷ 2 ∷ 3 ∷ 4 ∷ []) (with_lock new true) []) × (read_version eight new [] [] ≡ accept (up_from 5 37) new [])
unfolding read_label read_version part
label_values = (refl, refl)

-- B3: the good reply to 55h carries the new address and not the old, an error reply the old; a byte that is no address fits none; to broadcast the new one alone
pub right_address_values : (right_address (0x40 ∷ 0x55 ∷ 0x45 ∷ 0x55 ∷ 0x05 ∷ []) (0x45 ∷ 0xD5 ∷ 0x90 ∷ []) ≡ true)
    × (right_address (0x40 ∷ 0x55 ∷ 0x45 ∷ 0x55 ∷ 0x05 ∷ []) (0x40 ∷ 0x55 ∷ 0x15 ∷ []) ≡ false)
    × (right_address (0x40 ∷ 0x55 ∷ 0x45 ∷ 0x55 ∷ 0x05 ∷ []) (0x40 ∷ 0x50 ∷ 0x0F ∷ 0x1F ∷ []) ≡ true)
    × (right_address (0x40 ∷ 0x55 ∷ 0x45 ∷ 0x55 ∷ 0x05 ∷ []) (0x45 ∷ 0x50 ∷ 0x0F ∷ 0x1A ∷ []) ≡ false)
    × (right_address (0x40 ∷ 0x55 ∷ 0xFF ∷ 0x55 ∷ 0xBF ∷ []) (0xFF ∷ 0x55 ∷ 0xAA ∷ []) ≡ false)
    × (right_address (0xFF ∷ 0x55 ∷ 0x45 ∷ 0x55 ∷ 0xBA ∷ []) (0x46 ∷ 0x55 ∷ 0x13 ∷ []) ≡ false)
    × (right_address (0xFF ∷ 0x55 ∷ 0x45 ∷ 0x55 ∷ 0xBA ∷ []) (0x46 ∷ 0x50 ∷ 0x0F ∷ 0x19 ∷ []) ≡ true)
unfolding right_address from_asked board_byte bare command_byte
right_address_values = (refl, refl, refl, refl, refl, refl, refl)

-- a field behind 00h makes the table unsound and is not counted; the free blocks are what the fields leave
pub survey_values : ((survey 8 (tabled 0xC0 0 0xC0) 0).trusted ≡ false) × ((survey 8 (tabled 0xC0 0 0xC0) 0).fields ≡ 1) × ((survey 8 (tabled 0xC1 0xC2 0) 0).free ≡ 3)
unfolding survey table sound field_count used blocks exists free_blocks status_at blank
survey_values = (refl, refl, refl)

-- the code before the count; offset and count together
pub read_field_values : (read_field eight new (tabled 0xC8 0 0) (0 ∷ 0 ∷ 0 ∷ 0x54 ∷ []) ≡ refuse 0x0F) × (read_field eight new (tabled 0xC0 0 0) (0 ∷ 15 ∷ 2 ∷ 0 ∷ []) ≡ refuse 0x11)
unfolding read_field on_field error survey table sound field_count used blocks coded code_no exists free_blocks status_at blank wrong_code code fresh
read_field_values = (refl, refl)

-- a read-only field before the offset; a byte past the field
pub store_field_values : (store_field eight new (tabled 0x80 0 0) (0 ∷ 16 ∷ 1 ∷ 0 ∷ 7 ∷ []) ≡ refuse 0x0E) × (store_field eight new (tabled 0xC0 0 0) (0 ∷ 16 ∷ 1 ∷ 0 ∷ 7 ∷ []) ≡ refuse 0x11)
unfolding store_field on_field error survey table sound field_count used blocks coded code_no writable exists free_blocks status_at blank wrong_code code fresh
store_field_values = (refl, refl)

-- 03h before 12h; no field FFh
pub field_status_values : (field_status eight new (tabled 0xC0 0 0xC0) (5 ∷ []) ≡ refuse 0x03) × (field_status eight new (tabled 0xC0 0 0) (0xFF ∷ []) ≡ refuse 0x12)
unfolding field_status on_field error survey table sound field_count used blocks exists free_blocks status_at blank
field_status_values = (refl, refl)

pub memory_status_values : (memory_status eight new (tabled 0xC1 0xC2 0) [] ≡ accept (3 ∷ 2 ∷ []) new (tabled 0xC1 0xC2 0)) × (memory_status eight new (tabled 0xC0 0 0xC0) [] ≡ refuse 0x03)
unfolding memory_status error survey table sound field_count used blocks exists free_blocks free_byte status_at blank
memory_status_values = (refl, refl)

-- data of 07h, so that what is set to 00h shows: the blocks from a up to b are 00h
abbrev cleared : ℕ → ℕ → List ℕ → List ℕ
cleared a b tb = replicate (16 * a) 7 ++ (zeros (16 * (b - a)) ++ (replicate (128 - 16 * b) 7 ++ tb))

-- 4Dh creates: the code before the room, and that of the new status; seven blocks of seven are granted and set to 00h; 03h before 12h; no field is left out, and none is FFh
pub create_values : (shape_field eight new (cleared 0 0 (0xC0 ∷ zeros 7)) (1 ∷ 0xC7 ∷ 0x54 ∷ []) ≡ refuse 0x0F)
    × (shape_field eight new (cleared 0 0 (0xC0 ∷ zeros 7)) (1 ∷ 0xC7 ∷ 0x55 ∷ []) ≡ refuse 0x10)
    × (shape_field eight new (cleared 0 0 (0xC0 ∷ zeros 7)) (1 ∷ 0xC6 ∷ 0x55 ∷ []) ≡ accept (1 ∷ 0xC6 ∷ []) new (cleared 1 8 (0xC0 ∷ 0xC6 ∷ zeros 6)))
    × (shape_field eight full (cleared 0 0 (0xC0 ∷ zeros 7)) (1 ∷ 0xE0 ∷ 3 ∷ []) ≡ accept (1 ∷ 0xE0 ∷ []) full (cleared 1 2 (0xC0 ∷ 0xE0 ∷ zeros 6)))
    × (shape_field eight new (tabled 0xC0 0 0xC0) (5 ∷ 0xC0 ∷ 0x54 ∷ []) ≡ refuse 0x03)
    × (shape_field eight new (tabled 0xC0 0 0) (2 ∷ 0xC0 ∷ 0x54 ∷ []) ≡ refuse 0x12)
    × (shape_field eight new (tabled 0xC0 0 0) (0xFF ∷ 0xC0 ∷ 0x55 ∷ []) ≡ refuse 0x12)
unfolding shape_field choose error create modify delete clear put_status put survey table sound field_count used blocks code_no exists free_blocks status_at blank wrong_code code fresh
create_values = (refl, refl, refl, refl, refl, refl, refl)

-- 4Dh modifies: the code before the room, and that of the stored status; a new size only of the last field; more by the free blocks, not by one over; six blocks less of a full board
pub modify_values : (shape_field eight full (tabled 0xC0 0xC0 0) (0 ∷ 0xD1 ∷ 2 ∷ []) ≡ refuse 0x0F)
    × (shape_field eight full (tabled 0xC0 0xC0 0) (0 ∷ 0xD1 ∷ 1 ∷ []) ≡ refuse 0x10)
    × (shape_field eight full (tabled 0xC0 0xC0 0) (0 ∷ 0xD0 ∷ 1 ∷ []) ≡ accept (0 ∷ 0xD0 ∷ []) full (tabled 0xD0 0xC0 0))
    × (shape_field eight new (cleared 0 0 (0xC3 ∷ 0xC2 ∷ zeros 6)) (1 ∷ 0xC4 ∷ 0x55 ∷ []) ≡ refuse 0x10)
    × (shape_field eight new (cleared 0 0 (0xC3 ∷ 0xC2 ∷ zeros 6)) (1 ∷ 0xC3 ∷ 0x55 ∷ []) ≡ accept (1 ∷ 0xC3 ∷ []) new (cleared 7 8 (0xC3 ∷ 0xC3 ∷ zeros 6)))
    × (shape_field eight new (cleared 0 0 (0xC7 ∷ zeros 7)) (0 ∷ 0xC1 ∷ 0x55 ∷ []) ≡ accept (0 ∷ 0xC1 ∷ []) new (cleared 2 8 (0xC1 ∷ zeros 7)))
unfolding shape_field choose error create modify delete resize clear put_status put survey table sound field_count used blocks code_no exists free_blocks status_at blank wrong_code code fresh
modify_values = (refl, refl, refl, refl, refl, refl)

-- 4Dh deletes: first the code, that of the stored status; then bits 0 to 6, each of them; then the last field; the status is told as it came; no such field
pub delete_values : (shape_field eight full (tabled 0xC0 0xC0 0) (0 ∷ 0x10 ∷ 2 ∷ []) ≡ refuse 0x0F)
    × (shape_field eight full (tabled 0xC0 0xC0 0) (0 ∷ 0x10 ∷ 1 ∷ []) ≡ refuse 0x0D)
    × (shape_field eight full (tabled 0xC0 0xC0 0) (0 ∷ 0x40 ∷ 1 ∷ []) ≡ refuse 0x10)
    × (shape_field eight full (cleared 0 0 (0xC0 ∷ 0x81 ∷ zeros 6)) (1 ∷ 0x41 ∷ 1 ∷ []) ≡ refuse 0x0D)
    × (shape_field eight full (cleared 0 0 (0xC0 ∷ 0x81 ∷ zeros 6)) (1 ∷ 0x01 ∷ 1 ∷ []) ≡ accept (1 ∷ 0x01 ∷ []) full (cleared 1 3 (0xC0 ∷ zeros 7)))
    × (shape_field eight full (tabled 0xC0 0xC0 0) (2 ∷ 0 ∷ 9 ∷ []) ≡ refuse 0x12)
unfolding shape_field choose error create modify delete clear put_status put survey table sound field_count used blocks code_no exists attributes free_blocks status_at blank wrong_code code
delete_values = (refl, refl, refl, refl, refl, refl)

-- R1 before R2; a room of 133 bytes is R3
pub refused_values : (refused_by (record { total = 0; bits = 24; address = 0; ticks = 4; pause = 55; label = zeros 41 }) new [] 134 (poll 0) ≡ 1) × (refused_by eight new (zeros 136) 133 (poll 0) ≡ 3) × (refused_by eight new [] 0 (measured 7) ≡ 0)
unfolding refused_by plate_ok state_ok lends among apart fresh none
refused_values = (refl, refl, refl)

-- 4Bh of no byte and of 129
pub length_values : (length_fits (counted 4) (0 ∷ 0 ∷ 0 ∷ []) (zeros 4) ≡ false) × (length_fits (counted 4) (0 ∷ 0 ∷ 129 ∷ []) (zeros 133) ≡ false)
unfolding length_fits
length_values = (refl, refl)

-- R4 before R5, in a room of 134 bytes; 4Ah's count of 0 is R5; the buffer stays as it was
pub writes_values : (writes 32 0x42 [] (replicate 134 7) ≡ record { refusal = 4; count = 0; buffer = replicate 134 7 })
    × (writes 0 0x4A (0 ∷ 0 ∷ 0 ∷ 0 ∷ []) (replicate 135 7) ≡ record { refusal = 5; count = 0; buffer = replicate 135 7 })
unfolding writes address_ok allowed asked row length_fits command_of in_range
writes_values = (refl, refl)

-- the four position bytes from place 2 on; the empty piece at the front where the checksum is wrong
pub handed_values : (handed (0x40 ∷ 0x42 ∷ 0x02 ∷ []) (0x40 ∷ 0x42 ∷ 0 ∷ 1 ∷ 2 ∷ 3 ∷ 0x02 ∷ []) ≡ record { from = 2; count = 4 })
    × (handed (0x40 ∷ 0x42 ∷ 0x02 ∷ []) (0x40 ∷ 0x42 ∷ 0 ∷ 1 ∷ 2 ∷ 3 ∷ 0x03 ∷ []) ≡ record { from = 0; count = 0 })
unfolding handed piece_of judge bad branch written address_byte board_byte allowed asked in_range row command_of command_byte length_fits data_of right_address from_asked bare content error_reply right_length repeated warning xor_all xor_from same
handed_values = (refl, refl)
