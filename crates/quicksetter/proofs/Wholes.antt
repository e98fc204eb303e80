-- A character and a poll of an image: refused, or worked on its core. Assumes nothing.
use Prim.Native.Nat.{ℕ, ◌<◌}
use mathlib.Core.Path.{◌≡◌, sym, ap, ◌∙◌}
use mathlib.Core.Bool.{Bool, true, false}
use mathlib.Core.List.{List, ◌++◌}
use lib.ListN.{length, take, drop, length-append, take-append-drop}
use lib.Seq.{take_at}
use Rattle.meaning.specs.Bytes.{pick, arg}
use Rattle.meaning.specs.State.{none}
use Rattle.meaning.specs.Characters as characters
use Rattle.meaning.specs.Characters.{full_pause, remaining, over, more}
use Rattle.meaning.specs.Run.{character, poll}
use Rattle.line.specs.declared.plate.Plate as line
use Rattle.line.specs.Line.{plate_of, line_of}
use Rattle.image.specs.Image.{is_ours, is_core, head_in, core_in, plate_of_head, label_in, frame_in, kept_in, held_in}
use Rattle.image.specs.Writes.{Takes}
use Rattle.image.proofs.Round.{good}
use Rattle.quicksetter.specs.Calls.{plate_held, state_held, Called}
use Rattle.quicksetter.specs.Cores.{ImageUnrefused, ImageShuts, ImagePolls}
use Rattle.quicksetter.proofs.Heads.{ours-length, head_length_lem, lent-core, core-back, core-small, called_of}
use Rattle.quicksetter.proofs.Closing.{nothing-over, core_again, then_taken}

pub joined : (img : List ℕ) → img ≡ head_in img ++ core_in img
joined img = sym (take-append-drop 47 img)

-- what remains of the frame of the core that was lent
pub remaining_so : (img : List ℕ) (tick : ℕ) {r : characters.Remaining} → is_ours img ≡ true → r ≡ remaining (plate_held img) (held_in (take 165 (drop 47 img))) tick
    → r ≡ remaining (plate_held img) (state_held img) tick
remaining_so img tick e r = rw (lent-core img (ours-length img e)) at r

-- whether it is open
pub open_so : (img : List ℕ) {r : Bool} → is_ours img ≡ true → r ≡ (held_in (take 165 (drop 47 img))).line.begun → r ≡ (state_held img).line.begun
open_so img e r = rw (lent-core img (ours-length img e)) at r

-- the full pause of the plate that was read
pub pause_so : (img : List ℕ) {p : line.Plate} → p ≡ plate_of_head img → {n : ℕ} → ((l : List ℕ) → n ≡ full_pause (plate_of p l)) → n ≡ full_pause (plate_held img)
pause_so img q r = r (label_in img) ∙ ap (λ (x : line.Plate). full_pause (plate_of x (label_in img))) q

-- of an image that is not refused
module _ (img m w : List ℕ) (u : ImageUnrefused img (length m) (length w)) (tick : ℕ) where
  pub polled-over : {r : ℕ} {img' m' w' : List ℕ} → over (plate_held img) (state_held img) tick ≡ true → ImageShuts img m w r img' m' w' → ImagePolls img m w tick r img' m' w'
  polled-over o s = record { core = s.core tick o; head = s.head }

  pub polled_early : ((i : ℕ) → arg img i < 256) → over (plate_held img) (state_held img) tick ≡ false → ImagePolls img m w tick 0 img m w
  polled_early small o =
      record { core = nothing-over (plate_held img) (core_in img) m w u.core tick (core-small img small) o; head = joined img }

  module _ {r : ℕ} {img' m' w' : List ℕ} (a : ImagePolls img m w tick r img' m' w') where
    pub poll-whole : Called img m w (poll tick) r img' m' w'
    poll-whole = called_of img m w (poll tick) u.ours a.core.called a.head

    pub core-still : is_core (core_in img') ≡ true
    core-still = core_again (plate_held img) (core_in img) m w u.core tick a.core

    pub as_long : length img' ≡ 212
    as_long =
        ap length a.head ∙ length-append (head_in img) (core_in img') ∙ rw (head_length_lem img (ours-length img u.ours), (good (core_in img') core-still).all)

    pub lent_still : is_core (take 165 (drop 47 img')) ≡ true
    lent_still = rw (lent-core img' as_long) core-still

    head-kept : head_in img' ≡ head_in img
    head-kept = ap head_in a.head ∙ take_at (head_in img) (core_in img') 47 (head_length_lem img (ours-length img u.ours))

    -- .. a character
    pub character-whole : (v : ℕ) {bad worse : Bool} {core'' : List ℕ} → bad ≡ worse → ((i : ℕ) → arg img' i < 256)
        → Takes (more (pick (frame_in (take 165 (drop 47 img'))).begun (line_of (frame_in (take 165 (drop 47 img'))) (kept_in (take 165 (drop 47 img')))) none) tick v bad) (take 165 (drop 47 img')) core''
        → Called img m w (character tick v worse) r (take 47 img' ++ (core'' ++ drop 165 (drop 47 img'))) m' w'
    character-whole v {bad} {worse} {core''} b small t =
        let k : Takes (more (pick (frame_in (core_in img')).begun (line_of (frame_in (core_in img')) (kept_in (core_in img'))) none) tick v bad) (core_in img') core'' = rw (lent-core img' as_long) at t in
        called_of img m w (character tick v worse) u.ours (then_taken (plate_held img) (core_in img) m w u.core tick a.core v b (core-small img' small) k)
        (core-back img' core'' as_long ∙ ap (λ (x : List ℕ). x ++ core'') head-kept)
