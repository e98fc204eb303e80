-- What is left to show of `image::head::put_head`: a possible plate's numbers are bytes; the numbers, then the label bytes by way of an array.
use Rattle.std.proofs.Common.{◌≡◌, ℕ, ◌≤◌, ◌∙◌, List, ◌++◌, sym, ap, refl, length, take, drop, arith}
use lib.Seq.{take_all}
use Rattle.meaning.specs.Bytes.{put, zeros}
use Rattle.meaning.proofs.Puts.{length-put, put_all, put-put}
use Rattle.meaning.proofs.Plates.{total-fits, few_bits, low-address, few-ticks, short-pause, whole-label}
use Rattle.image.specs.Image.{head_of}
use Rattle.image.proofs.Standing.{part_filled}
use Rattle.image.proofs.head.put_head.Goals as goal

pub overflow_cast-numbers : goal.overflow_cast-numbers
overflow_cast-numbers c = record { fits = omega (arith, total-fits _ c.requires.possible_plate) }

pub overflow_cast-numbers-2 : goal.overflow_cast-numbers-2
overflow_cast-numbers-2 c = record { fits = omega (arith, few_bits _ c.requires.possible_plate) }

pub overflow_cast-numbers-3 : goal.overflow_cast-numbers-3
overflow_cast-numbers-3 c = record { fits = omega (arith, low-address _ c.requires.possible_plate) }

pub overflow_cast-numbers-4 : goal.overflow_cast-numbers-4
overflow_cast-numbers-4 c = record { fits = omega (arith, few-ticks _ c.requires.possible_plate) }

pub overflow_cast-numbers-5 : goal.overflow_cast-numbers-5
overflow_cast-numbers-5 c = record { fits = omega (arith, short-pause _ c.requires.possible_plate) }

pub slice_bounds-fill-end-2 : goal.slice_bounds-fill-end-2
slice_bounds-fill-end-2 c = omega (arith, whole-label _ c.requires.possible_plate)

written : (m numbers label : List ℕ) {first bytes place : List ℕ} → length numbers ≡ 6 → length label ≡ 41 → 47 ≤ length m
    → first ≡ put m 0 numbers → bytes ≡ put (zeros 41) 0 (take 41 label) → place ≡ put (take 41 (drop 6 first)) 0 bytes
    → take 6 first ++ (place ++ drop 41 (drop 6 first)) ≡ put m 0 (numbers ++ label)
written m numbers label {first} {bytes} six all h e f g =
    let whole : take 41 label ≡ label = take_all 41 label (omega arith) in
    let copied : bytes ≡ label = f ∙ ap (put (zeros 41) 0) whole ∙ put_all (zeros 41) label (sym all) in
    let long : length first ≡ length m = ap length e ∙ length-put m 0 numbers (omega arith) in
    part_filled first 6 41 bytes (omega arith) (ap length copied ∙ all) g ∙ rw (e, copied) (put-put m 0 numbers label 6 (omega arith) (omega arith))

pub returns : goal.returns
unfolding head_of
returns c =
    written c.args.image.now _ c.args.label.now refl (whole-label _ c.requires.possible_plate) (omega (arith, c.requires.whole_image))
    c.fill.ensures c.fill-2.ensures c.fill-3.ensures
