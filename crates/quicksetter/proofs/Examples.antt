-- What the promises over runs ask for can be met: a fresh host hears 40 4E 0E, and its next poll closes that request. Computed. Assumes nothing.
use Prim.Native.Nat.{ℕ, ◌≤◌}
use native.Mathlib.Omega.{arith}
use mathlib.Core.Path.{◌≡◌, refl}
use mathlib.Core.Bool.{false}
use mathlib.Core.List.{List, []}
use lib.Dec.{T}
use lib.ListN.{length, length-replicate}
use Rattle.meaning.specs.Bytes.{blank, part, put, zeros, little, xor_all, xor_from, among}
use Rattle.meaning.specs.State.{Plate, none, fresh, plate_ok, state_ok, apart, with_line, own_byte}
use Rattle.meaning.specs.Fields.{memory_length, exists, blocks, table, field_count, used, sound, free_blocks, status_at, survey}
use Rattle.meaning.specs.Characters.{over, gap, taken, more, closed, whole, remaining, full_pause}
use Rattle.meaning.specs.Commands.{command_of, row, length_fits, asked, error, free_byte, memory_status, worked}
use Rattle.meaning.specs.Frames as frames
use Rattle.meaning.specs.Frames.{command_byte, data_of, ours, judged, ending, sealed, warned, message, still, leaves, work, resting, close, up_to}
use Rattle.meaning.specs.Run.{Call, character, poll, step, lends, refused_by, closes, Heard}
use Rattle.meaning.specs.Run as run
use Rattle.meaning.specs.Bench.{in_range, allowed, request}
use Rattle.meaning.specs.Sheet.{sheet_plate}
use Rattle.state.specs.Queue.{queue_of, waiting}
use Rattle.image.specs.Image.{flag_byte, flags_ok, state_in, frame_in, plate_of_head, head_of, is_ours, is_core, state_bytes, line_bytes, core_of}
use Rattle.quicksetter.specs.Calls.{is_image, state_held, called_by, call_number, image_after, image_of, start_ok, Called, Freshens}
use Rattle.quicksetter.specs.Promises.{began, called, ClosesNext, closes_next, HoldsRequest}

abbrev board : Plate
board = sheet_plate 1

abbrev bare : List ℕ
bare = zeros (memory_length 1)

abbrev room : List ℕ
room = zeros 134

wide : 134 ≤ length room
wide = omega (arith, length-replicate {A = ℕ} 134 0)

abbrev image0 : List ℕ
image0 = image_of board (fresh board) (zeros 135)

was_fresh : Freshens board image0 0 image0
unfolding start_ok plate_ok among state_ok apart fresh none image_of head_of core_of state_bytes line_bytes flag_byte put
was_fresh = record { answer = refl; image = refl }

-- what a call leaves, where the image holds the state after it
module _ (img m : List ℕ) (g : Call) where
  abbrev outcome : run.Held
  outcome = called_by img m room g

  abbrev after : List ℕ
  after = image_after img outcome

  as_called : state_held after ≡ outcome.state → Called img m room g (call_number outcome) after outcome.memory outcome.room
  as_called e = record { answer = refl; state = e; image = refl; memory = refl; room = refl }

-- the three characters of the request
abbrev first : Call
first = character 0 0x40 false

abbrev second : Call
second = character 44 0x4E false

abbrev third : Call
third = character 88 0x0E false

abbrev image1 : List ℕ
image1 = after image0 bare first

abbrev memory1 : List ℕ
memory1 = (outcome image0 bare first).memory

abbrev image2 : List ℕ
image2 = after image1 memory1 second

abbrev memory2 : List ℕ
memory2 = (outcome image1 memory1 second).memory

abbrev image3 : List ℕ
image3 = after image2 memory2 third

abbrev memory3 : List ℕ
memory3 = (outcome image2 memory2 third).memory

-- a poll after the pause
abbrev last : Call
last = poll 308

-- each image holds the state after its call; the third one the request, which that poll closes
record Steps : Type 0 where
  one : state_held image1 ≡ (outcome image0 bare first).state
  two : state_held image2 ≡ (outcome image1 memory1 second).state
  three : state_held image3 ≡ (outcome image2 memory2 third).state
  four : state_held (after image3 memory3 last) ≡ (outcome image3 memory3 last).state
  request_4e : HoldsRequest board image3 0x40 0x4E []
  closing : T (closes board (state_held image3) last)

computed : Steps
unfolding image_after called_by is_image is_ours is_core flags_ok run.called refused_by lends step up_to over remaining full_pause gap still taken more with_line plate_ok among state_ok apart fresh none
    image_of head_of plate_of_head core_of state_bytes line_bytes flag_byte put state_in frame_in part little queue_of waiting xor_all xor_from closed whole request sealed own_byte allowed
    asked row length_fits command_of in_range closes close resting work ending ours leaves judged frames.outcome message warned data_of command_byte worked memory_status error
    survey table sound blank field_count used exists blocks free_blocks status_at free_byte
computed = record { one = refl; two = refl; three = refl; four = refl; request_4e = record { frame = refl; ours = tt; may = tt }; closing = tt }

pub holds_4e : HoldsRequest board image3 0x40 0x4E []
holds_4e = computed.request_4e

-- the host has heard the three characters; its next call closes the request and leaves a reply
pub closes_4e : (t : List Heard) × (y : List ℕ) × ClosesNext board t image3 memory3 y
closes_4e =
    let one = called _ _ image0 bare _ room first _ image1 memory1 _ (began image0 image0 was_fresh) wide (as_called image0 bare first computed.one) in
    let two = called _ _ image1 memory1 _ room second _ image2 memory2 _ one wide (as_called image1 memory1 second computed.two) in
    let three = called _ _ image2 memory2 _ room third _ image3 memory3 _ two wide (as_called image2 memory2 third computed.three) in
    (_, _, closes_next _ _ room last _ (after image3 memory3 last) _ _ three wide (as_called image3 memory3 last computed.four) computed.closing)
