-- A core is read and written without loss: of a board of the code's types, and of a core's own bytes. Assumes nothing.
use Prim.Native.Nat.{ℕ, ◌<◌, ◌≤◌, ◌^◌}
use native.Mathlib.Omega.{arith}
use native.Mathlib.Nat.{zero-add}
use mathlib.Core.Path.{◌≡◌, sym, ap, ◌∙◌}
use mathlib.Core.Bool.{Bool, true}
use mathlib.Core.List.{List, ◌++◌}
use borrow.Author.Tests.{eqb-true, leb-true}
use lib.Dec.{eqb, leb}
use lib.ListN.{length, take, drop, take-append-drop}
use lib.Seq.{length-take-le}
use Rattle.meaning.specs.Bytes.{arg, part, put, both}
use Rattle.state.specs.declared.state.State.{State}
use Rattle.state.specs.State.{state_with}
use Rattle.line.specs.declared.characters.OpenFrame.{OpenFrame}
use Rattle.line.specs.Line.{line_of, Fits}
use Rattle.image.specs.Image.{flags_ok, is_core, state_in, frame_in, kept_in, held_in, state_bytes, line_bytes, core_of}
use Rattle.image.specs.Writes.{frame_bytes}
use Rattle.image.proofs.Standing.{Typed, state-first, frame_again, line_row}
use Rattle.image.proofs.Parts.{whole-front, whole-rest, whole-kept, whole_length_lem, kept-length, line-length, state_as_it_was, frame_as_it_was, parts_joined, state-length}
use Rattle.meaning.proofs.Choices.{both_left, both_right}

-- what a core is
pub record Good (core : List ℕ) : Type 0 where
  pub all : length core ≡ 165
  pub locked : arg core 20 ≤ 1
  pub begun : arg core 21 ≤ 1
  pub longer : arg core 22 ≤ 1
  pub parity : arg core 23 ≤ 1
  pub few : arg core 29 ≤ 135

pub good : (core : List ℕ) → is_core core ≡ true → Good core
unfolding is_core flags_ok
good core e =
    let n : Bool = leb (arg core 29) 135 in
    let d : Bool = leb (arg core 23) 1 in
    let c : Bool = both (leb (arg core 22) 1) d in
    let b : Bool = both (leb (arg core 21) 1) c in
    let a : Bool = both (leb (arg core 20) 1) b in
    let r : both a n ≡ true = both_right (eqb (length core) 165) (both a n) e in
    let f : a ≡ true = both_left a n r in
    let g : b ≡ true = both_right (leb (arg core 20) 1) b f in
    let h : c ≡ true = both_right (leb (arg core 21) 1) c g in
    record {
      all = eqb-true (length core) 165 (both_left (eqb (length core) 165) (both a n) e);
      locked = leb-true (arg core 20) 1 (both_left (leb (arg core 20) 1) b f);
      begun = leb-true (arg core 21) 1 (both_left (leb (arg core 21) 1) c g);
      longer = leb-true (arg core 22) 1 (both_left (leb (arg core 22) 1) d h);
      parity = leb-true (arg core 23) 1 (both_right (leb (arg core 22) 1) d h);
      few = leb-true (arg core 29) 135 (both_right a n r);
    }

-- the kept bytes put where they stand
pub kept_stays : (kept : List ℕ) (n : ℕ) → n ≤ length kept → put kept 0 (take n kept) ≡ kept
unfolding put
kept_stays kept n h = rw (length-take-le n kept h, zero-add) (take-append-drop n kept)

-- a core's own bytes: what it holds is written back as it was
pub core_as_it_was : (core : List ℕ) → is_core core ≡ true → ((i : ℕ) → arg core i < 256) → core_of (held_in core) (kept_in core) ≡ core
unfolding core_of frame_in
core_as_it_was core e small =
    let g : Good core = good core e in
    let k : length (kept_in core) ≡ 135 = kept-length core g.all in
    let a : state_bytes (held_in core) ≡ take 21 core = state_as_it_was core g.all small g.locked (line_of (frame_in core) (kept_in core)) in
    let b : line_bytes (line_of (frame_in core) (kept_in core)) ≡ part core 21 9 =
    frame_as_it_was core g.all small g.begun g.longer g.parity (kept_in core) k g.few in
    let n : (frame_in core).len ≤ 135 = g.few in
    let c : put (kept_in core) 0 (take (frame_in core).len (kept_in core)) ≡ kept_in core = kept_stays (kept_in core) (frame_in core).len (omega arith) in
    rw (a, b, c) (parts_joined core g.all)

-- a board of the code's types
module _ (s : State) (f : OpenFrame) (kept : List ℕ) (t : Typed s) (k : f.last < 2 ^ 32) (fits : Fits f kept) where
  written : core_of (state_with s (line_of f kept)) kept ≡ state_bytes (state_with s (line_of f kept)) ++ (line_bytes (line_of f kept) ++ kept)
  unfolding core_of
  written = rw (kept_stays kept f.len (omega (arith, fits.few, fits.all)))

  pub state_round_trip : state_in (core_of (state_with s (line_of f kept)) kept) ≡ s
  state_round_trip = ap state_in written ∙ state-first s (line_bytes (line_of f kept) ++ kept) (line_of f kept) t

  pub kept_round_trip : kept_in (core_of (state_with s (line_of f kept)) kept) ≡ kept
  kept_round_trip = ap kept_in written ∙ whole-kept (state_bytes (state_with s (line_of f kept))) (line_bytes (line_of f kept)) kept (state-length s (line_of f kept)) (line-length (line_of f kept)) fits.all

  pub frame_round_trip : frame_in (core_of (state_with s (line_of f kept)) kept) ≡ f
  unfolding put
  frame_round_trip =
      let front : List ℕ = state_bytes (state_with s (line_of f kept)) in
      let row : List ℕ = line_bytes (line_of f kept) in
      let a : length front ≡ 21 = state-length s (line_of f kept) in
      let b : length row ≡ 9 = line-length (line_of f kept) in
      let w : put (front ++ (row ++ kept)) 21 row ≡ front ++ (row ++ kept) =
      rw (b, whole-front front row kept a b fits.all, whole-rest front row kept a b fits.all) in
      let r : row ≡ frame_bytes f = line_row f kept fits in
      ap frame_in (written ∙ sym w ∙ ap (put (front ++ (row ++ kept)) 21) r)
      ∙ frame_again f (front ++ (row ++ kept)) (omega (arith, whole_length_lem front row kept a b fits.all)) k

-- the 135 places, lent and come back as they were
pub lent_back : (core : List ℕ) → take 30 core ++ (kept_in core ++ drop 135 (drop 30 core)) ≡ core
lent_back core = rw (take-append-drop 135 (drop 30 core)) (take-append-drop 30 core)
