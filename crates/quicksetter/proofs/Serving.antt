-- The open frame of an image is closed: judged, worked and answered on its lent core, then put away. Assumes nothing.
use Prim.Native.Nat.{ℕ, ◌+◌, ◌-◌, ◌<◌, ◌≤◌}
use mathlib.Core.Path.{◌≡◌, refl, ap, ◌∙◌}
use mathlib.Core.Bool.{true, false}
use mathlib.Core.List.{List, ◌++◌}
use lib.ListN.{length, take, drop, length-append}
use lib.Seq.{take_at, drop_at}
use Rattle.meaning.specs.Bytes.{arg, part}
use Rattle.meaning.specs.State as meaning
use Rattle.meaning.specs.State.{none, own_byte}
use Rattle.line.specs.declared.plate.Plate.{Plate}
use Rattle.line.specs.declared.characters.OpenFrame.{OpenFrame}
use Rattle.line.specs.Line.{plate_of, frame_of, no_frame}
use Rattle.line.specs.declared.judge.Judgement.{Judgement}
use Rattle.line.specs.declared.judge.Judgement.TheVariants.{Request}
use Rattle.line.specs.Judge.{judgement_of, code_to_answer}
use Rattle.line.proofs.Judging.{asking}
use Rattle.state.specs.declared.effects.Effect.{Effect}
use Rattle.state.specs.Effects.{Bounded}
use Rattle.state.specs.State.{state_with}
use Rattle.board.specs.Work.{Refused}
use Rattle.board.proofs.Endings.{still-low}
use Rattle.image.specs.Image.{is_ours, is_core, head_in, core_in, plate_of_head, label_in, state_in, frame_in}
use Rattle.image.specs.Writes.{PutsEffect, PutsFrame}
use Rattle.image.proofs.Round.{good}
use Rattle.quicksetter.specs.Calls.{plate_held}
use Rattle.quicksetter.specs.Cores.{data_to, Unrefused, Servable, ServedIn, ImageUnrefused, ImageServable, ImageServed, ImageAnswered, ImageShuts}
use Rattle.quicksetter.proofs.Heads.{ours-length, head_length_lem, core_of-whole, lent-core, core-back}
use Rattle.quicksetter.proofs.Closing.{as_long, refused_in, servable, request_in, put_away}
use Rattle.quicksetter.proofs.Wholes.{joined}

-- the label bytes, lent out of the image
pub label-there : (img : List ℕ) → take 41 (drop 6 img) ≡ label_in img
unfolding part
label-there img = refl

-- what a command changes leaves a possible address
pub effect-low : {x : Effect} {core core' : List ℕ} → PutsEffect x core core' → Bounded x → (state_in core).address ≤ 31 → (state_in core').address ≤ 31
effect-low {x} {core} q b low = rw (ap (λ (s : meaning.State). s.address) (q.holds none)) (still-low x (state_with (state_in core) none) b low)

-- an image with our head, whose plate was read, and whose core and label bytes are lent
module _ (p : Plate) (img : List ℕ) (e : is_ours img ≡ true) (q : p ≡ plate_of_head img) where
  abbrev core : List ℕ
  core = take 165 (drop 47 img)

  all : length img ≡ 212
  all = ours-length img e

  pub lent_servable : (m w : List ℕ) {c end : ℕ} → Servable (plate_of_head img) (label_in img) c end (core_in img) m w → Servable p (label_in img) c end core m w
  lent_servable m w s = rw (q, lent-core img all) s

  -- what is left of the lent core, as it was or written anew, is left of the image's
  module _ (Leaves : meaning.Plate → List ℕ → List ℕ → Type 0) {core' : List ℕ} (h : Leaves (plate_of p (label_in img)) core core') where
    of_image : Leaves (plate_held img) (core_in img) core'
    of_image = rw (q, lent-core img all) at h

    abbrev img' : List ℕ
    img' = take 47 img ++ (core' ++ drop 165 (drop 47 img))

    back : img' ≡ head_in img ++ core'
    back = core-back img core' all

    core_is : core_in img' ≡ core'
    core_is = ap core_in back ∙ core_of-whole img core' all

    pub core-left : Leaves (plate_held img) (core_in img) (core_in img')
    core-left = rw core_is of_image

    pub head-left : img' ≡ head_in img ++ core_in img'
    head-left = rw core_is back

  -- the core that was written anew, lent again
  module _ (k : is_core core ≡ true) {x : Effect} {core' : List ℕ} (effect : PutsEffect x core core') where
    n : length core' ≡ 165
    n = as_long core (good core k).all effect.bytes

    pub written-long : length (take 47 img ++ (core' ++ drop 165 (drop 47 img))) ≡ 212
    written-long = ap length (core-back img core' all) ∙ length-append (head_in img) core' ∙ rw (head_length_lem img all, n)

    pub lent_again : take 165 (drop 47 (take 47 img ++ (core' ++ drop 165 (drop 47 img)))) ≡ core'
    lent_again = ap (take 165) (drop_at (take 47 img) (core' ++ drop 165 (drop 47 img)) 47 (head_length_lem img all)) ∙ take_at core' (drop 165 (drop 47 img)) 165 n

  -- a request that leaves the state, and one that changes it
  module _ (c end : ℕ) (m w : List ℕ) {r : ℕ} {m' w' : List ℕ} where
    pub served_still : ServedIn (plate_of p (label_in img)) c (data_to end core) core m w r core m' w' → ImageServed c end img m w r img m' w'
    served_still h = record { core = rw (q, lent-core img all) at h; head = joined img }

    pub served_anew : {core' : List ℕ} → ServedIn (plate_of p (label_in img)) c (data_to end core) core m w r core' m' w'
        → ImageServed c end img m w r (take 47 img ++ (core' ++ drop 165 (drop 47 img))) m' w'
    served_anew h =
        let Leaves : meaning.Plate → List ℕ → List ℕ → Type 0 = λ x before after. ServedIn x c (data_to end before) before m w r after m' w' in
        record { core = core-left Leaves h; head = head-left Leaves h }

-- an image that is not refused: its open frame by its judgement
module _ (img m w : List ℕ) (u : ImageUnrefused img (length m) (length w)) where
  abbrev p : Plate
  p = plate_of_head img

  abbrev lent : List ℕ
  lent = take 165 (drop 47 img)

  whole : length img ≡ 212
  whole = ours-length img u.ours

  pub fine : Unrefused (plate_held img) lent (length m) (length w)
  fine = rw (lent-core img whole) u.core

  module _ {f : OpenFrame} (e : f ≡ frame_in lent) where
    abbrev kept : List ℕ
    kept = take (30 + f.len - 30) (drop 30 lent)

    -- no request: the image stays
    pub refusal-answered : (j : Judgement) (own : ℕ) {r : ℕ} {w' : List ℕ} → ((i : ℕ) → arg lent i < 256) → own ≡ own_byte (state_with (state_in lent) none)
        → judgement_of own (frame_of f kept) ≡ j → asking j ≡ false → Refused (state_in lent) (code_to_answer j) w r w' → ImageAnswered img m w r img m w'
    refusal-answered j own small o k n h =
        record { core = rw (lent-core img whole) at (refused_in p (label_in img) lent m w fine e j own small o k n h); head = joined img }

    module _ (own : ℕ) {c : ℕ} (j : judgement_of own (frame_of f kept) ≡ Request c) where
      pub request_servable : ImageServable c (30 + f.len) img m w
      request_servable = record { ours = u.ours; core = rw (lent-core img whole) at (servable p (label_in img) lent m w fine e own j) }

      pub request-answered : {r : ℕ} {img' m' w' : List ℕ} → own ≡ own_byte (state_with (state_in lent) none) → ImageServed c (30 + f.len) img m w r img' m' w'
          → ImageAnswered img m w r img' m' w'
      request-answered {r} {img'} {m'} {w'} o s =
          let h : ServedIn (plate_held img) c (data_to (30 + f.len) lent) lent m w r (core_in img') m' w' = rw (lent-core img whole) s.core in
          record { core = rw (lent-core img whole) at (request_in p (label_in img) lent m w fine e own j o h); head = s.head }

-- the frame was answered, and is put away
module _ (img m w : List ℕ) (u : ImageUnrefused img (length m) (length w)) {r : ℕ} {mid m' w' : List ℕ} (a : ImageAnswered img m w r mid m' w') where
  head-long : length (head_in img) ≡ 47
  head-long = head_length_lem img (ours-length img u.ours)

  pub answered-long : length mid ≡ 212
  answered-long =
      ap length a.head ∙ length-append (head_in img) (core_in mid) ∙ rw (head-long, as_long (core_in img) (good (core_in img) u.core.bytes).all a.core.state)

  pub shuts : {f : OpenFrame} {core'' : List ℕ} → f ≡ no_frame → PutsFrame f (take 165 (drop 47 mid)) core''
      → ImageShuts img m w r (take 47 mid ++ (core'' ++ drop 165 (drop 47 mid))) m' w'
  shuts {f} {core''} e q =
      let k : PutsFrame f (core_in mid) core'' = rw (lent-core mid answered-long) at q in
      let i : take 47 mid ++ (core'' ++ drop 165 (drop 47 mid)) ≡ head_in mid ++ core'' = core-back mid core'' answered-long in
      let d : core_in (take 47 mid ++ (core'' ++ drop 165 (drop 47 mid))) ≡ core'' = ap core_in i ∙ core_of-whole mid core'' answered-long in
      let same : head_in mid ≡ head_in img = ap head_in a.head ∙ take_at (head_in img) (core_in mid) 47 head-long in
      record {
        core = λ tick o. rw d (put_away (plate_held img) (core_in img) m w u.core tick o e a.core k);
        head = rw d (i ∙ ap (λ (x : List ℕ). x ++ core'') same);
      }
