-- An image that is made: of a fresh board, of a board that was off. Assumes nothing.
use Prim.Native.Nat.{ℕ, ◌≤◌}
use native.Mathlib.Omega.{arith}
use mathlib.Core.Path.{◌≡◌, refl, sym, ap, ◌∙◌}
use mathlib.Core.Bool.{Bool, true, false}
use mathlib.Core.List.{List, ◌++◌}
use borrow.Author.Tests.{eq-eqb, ne_eqb, eqb-true}
use lib.Dec.{eqb}
use lib.ListN.{length, take, drop, length-replicate}
use lib.Seq.{take_at, drop_at, length-take-le}
use Rattle.meaning.specs.Bytes.{both, part, put, zeros, little}
use Rattle.meaning.specs.State as meaning
use Rattle.meaning.specs.State.{Plate, none, plate_ok, state_ok, fresh}
use Rattle.meaning.proofs.Puts.{put-nothing, length-put, part-put}
use Rattle.meaning.proofs.Limits.{to_lim, fresh-within}
use Rattle.meaning.proofs.Choices.{both_left, both_right, both_false, told-true, true-told}
use Rattle.line.specs.declared.characters.OpenFrame.{OpenFrame}
use Rattle.line.specs.Line.{plate_of, line_of, no_frame, Fits}
use Rattle.meaning.proofs.Plates.{whole-label}
use Rattle.state.specs.declared.state.State.{State}
use Rattle.state.specs.State.{state_with}
use Rattle.state.specs.Queue.{queue_of, waiting}
use Rattle.image.specs.Image.{flag_byte, state_in, frame_in, kept_in, held_in, state_bytes, line_bytes, head_of, core_in, plate_of_head, core_of}
use Rattle.image.specs.Writes.{frame_row, frame_bytes, PutsBoard}
use Rattle.image.proofs.Standing.{put_whole, Typed}
use Rattle.image.proofs.Parts.{kept-length}
use Rattle.image.proofs.Round.{state_round_trip, frame_round_trip, kept_round_trip}
use Rattle.quicksetter.proofs.Heads.{core-back, label_in-head}
use Rattle.quicksetter.specs.Calls.{plate_held, image_of, start_ok, Makes, rested, restart_ok, Restarts}

nothing_open : frame_bytes no_frame ≡ line_bytes none
unfolding frame_row line_bytes none flag_byte
nothing_open = refl

nothing-kept : put (zeros 135) 0 none.kept ≡ zeros 135
unfolding none
nothing-kept = sym (put-nothing (zeros 135) 0)

pub nothing-long : length (zeros 135) ≡ 135
nothing-long = length-replicate {A = ℕ} 135 0

pub nothing-short : length none.kept ≤ 135
unfolding none
nothing-short = omega arith

-- the places are blanked, then state and numbers are written
pub core_made : (core : List ℕ) {s : State} {f : OpenFrame} {after core' : List ℕ} → length core ≡ 165
    → after ≡ put (take 135 (drop 30 core)) 0 (zeros 135) → f ≡ no_frame
    → PutsBoard s f (take 30 core ++ (after ++ drop 135 (drop 30 core))) core' → core' ≡ core_of (state_with s none) (zeros 135)
unfolding core_of
core_made core {s} {f} {after} {core'} all a c d =
    let k : length (take 135 (drop 30 core)) ≡ 135 = kept-length core all in
    let w : after ≡ zeros 135 = a ∙ put_whole (take 135 (drop 30 core)) (zeros 135) (omega (arith, nothing-long)) in
    let y : kept_in (take 30 core ++ (zeros 135 ++ drop 135 (drop 30 core))) ≡ zeros 135 =
    ap (take 135) (drop_at (take 30 core) (zeros 135 ++ drop 135 (drop 30 core)) 30 (length-take-le 30 core (omega arith)))
    ∙ take_at (zeros 135) (drop 135 (drop 30 core)) 135 nothing-long in
    let x : kept_in (take 30 core ++ (after ++ drop 135 (drop 30 core))) ≡ zeros 135 = rw w y in
    d.bytes none ∙ ap (λ (v : List ℕ). state_bytes (state_with s none) ++ (frame_bytes f ++ v)) x ∙ rw (c, nothing_open, nothing-kept)

-- a possible plate's head
pub head-whole : (p : Plate) → plate_ok p ≡ true → length (head_of p) ≡ 47
unfolding head_of
head-whole p ok = rw (whole-label p ok)

-- head and core are written
pub made : (p : Plate) (s : meaning.State) (img : List ℕ) {mid core' : List ℕ} → plate_ok p ≡ true → length img ≡ 212 → mid ≡ put img 0 (head_of p) → core' ≡ core_of s (zeros 135)
    → take 47 mid ++ (core' ++ drop 165 (drop 47 mid)) ≡ image_of p s (zeros 135)
unfolding image_of part
made p s img {mid} {core'} ok all a b =
    let n : length (head_of p) ≡ 47 = head-whole p ok in
    let long : length mid ≡ 212 = ap length a ∙ length-put img 0 (head_of p) (omega arith) ∙ all in
    let head : take 47 mid ≡ head_of p = ap (take 47) a ∙ part-put img 0 (head_of p) 47 (omega arith) n in
    core-back mid core' long ∙ rw (head, b)

-- a possible plate, and an image's bytes for it
module _ (p : Plate) (img : List ℕ) (h : both (plate_ok p) (eqb (length img) 212) ≡ true) where
  pub plate_there : plate_ok p ≡ true
  plate_there = both_left (plate_ok p) _ h

  pub image_there : length img ≡ 212
  image_there = eqb-true (length img) 212 (both_right (plate_ok p) _ h)

module _ (p : Plate) (s : meaning.State) (img : List ℕ) where
  refused-start : start_ok p s img ≡ false → Makes p s img 257 img
  refused-start e = record { answer = rw e; image = rw e }

  lost : (a b c : Bool) → both a b ≡ false → both a (both b c) ≡ false
  lost true b c e = rw e
  lost false b c e = refl

  pub no_place : both (plate_ok p) (eqb (length img) 212) ≡ false → Makes p s img 257 img
  unfolding start_ok
  no_place e = refused-start (lost (plate_ok p) (eqb (length img) 212) (state_ok p s) e)

  module _ (all : length img ≡ 212) where
    module _ (e : plate_ok p ≡ true) where
      pub no_state : state_ok p s ≡ false → Makes p s img 257 img
      unfolding start_ok
      no_state n = let z : eqb (length img) 212 ≡ true = eq-eqb _ _ all in record { answer = rw (e, z, n); image = rw (e, z, n) }

      pub started : {img' : List ℕ} → state_ok p s ≡ true → img' ≡ image_of p s (zeros 135) → Makes p s img 0 img'
      unfolding start_ok
      started n a = let z : eqb (length img) 212 ≡ true = eq-eqb _ _ all in record { answer = rw (e, z, n); image = rw (e, z, n) a }

pub no_label : (p : Plate) → (length p.label ≡ 41 → ⊥) → plate_ok p ≡ false
unfolding plate_ok
no_label p n = simp (ne_eqb (length p.label) 41 n, both_false)

-- a possible state's counter
pub state-counts : (p : Plate) (s : State) → state_ok p (state_with s none) ≡ true → s.counter ≤ 0xFFFFFF
state-counts p s ok = (to_lim p (state_with s none) (true-told (state_ok p (state_with s none)) ok)).counts

pub fresh-counts : (p : Plate) (s : State) → state_with s none ≡ fresh p → s.counter ≤ 0xFFFFFF
unfolding fresh
fresh-counts p s e = omega (arith, ap (λ (x : meaning.State). x.counter) e)

pub fresh_fine : (p : Plate) → plate_ok p ≡ true → state_ok p (fresh p) ≡ true
fresh_fine p ok = told-true (state_ok p (fresh p)) (fresh-within p (true-told (plate_ok p) ok))

-- another number of lasting bytes; else it starts from them
pub no_lasting : (p : Plate) (lasting img : List ℕ) → (length lasting ≡ 12 → ⊥) → Restarts p lasting img 257 img
unfolding restart_ok
no_lasting p lasting img n = let z : eqb (length lasting) 12 ≡ false = ne_eqb _ _ n in record { answer = rw z; image = rw z }

pub restarts : (p : Plate) (lasting img : List ℕ) {r : ℕ} {img' : List ℕ} → length lasting ≡ 12 → Makes p (rested lasting) img r img' → Restarts p lasting img r img'
unfolding restart_ok
restarts p lasting img n s = let z : eqb (length lasting) 12 ≡ true = eq-eqb _ _ n in record { answer = rw z s.answer; image = rw z s.image }

-- ---- what such an image holds
pub fresh_holds : (p : Plate) → held_in (core_of (fresh p) (zeros 135)) ≡ fresh p
unfolding core_of state_bytes line_bytes fresh none flag_byte put state_in frame_in part little queue_of waiting
fresh_holds p = refl

module _ (p : Plate) (s : meaning.State) (places : List ℕ) (ok : plate_ok p ≡ true) where
  pub plate_again : plate_held (image_of p s places) ≡ p
  unfolding image_of head_of plate_of_head
  plate_again = ap (plate_of (plate_of_head (image_of p s places))) (label_in-head (head_of p) (core_of s places) (head-whole p ok))

  pub core_again : core_in (image_of p s places) ≡ core_of s places
  unfolding image_of
  core_again = drop_at (head_of p) (core_of s places) 47 (head-whole p ok)

-- a state of the code's types, with no frame open
pub made_holds : (s : State) → Typed s → held_in (core_of (state_with s none) (zeros 135)) ≡ state_with s none
unfolding none
made_holds s t =
    let fits : Fits no_frame (zeros 135) = record { few = omega arith; all = nothing-long } in
    let c : List ℕ = core_of (state_with s none) (zeros 135) in
    let a : state_in c ≡ s = state_round_trip s no_frame (zeros 135) t (omega arith) fits in
    let b : frame_in c ≡ no_frame = frame_round_trip s no_frame (zeros 135) t (omega arith) fits in
    let k : kept_in c ≡ zeros 135 = kept_round_trip s no_frame (zeros 135) t (omega arith) fits in
    ap (λ (x : State). state_with x (line_of (frame_in c) (kept_in c))) a ∙ ap (λ (f : OpenFrame). state_with s (line_of f (kept_in c))) b ∙ ap (λ (y : List ℕ). state_with s (line_of no_frame y)) k
