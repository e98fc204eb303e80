-- A call that closes no frame leaves what the quick way leaves, where nothing is refused. Assumes nothing.
use Prim.Native.Nat.{ℕ, ◌≤◌}
use mathlib.Core.Path.{◌≡◌, refl, sym, ap, ◌∙◌}
use mathlib.Core.Bool.{Bool, true, false}
use mathlib.Core.List.{List}
use borrow.Author.Tests.{le-leb, eq-eqb, leb-true, eqb-true}
use lib.Dec.{eqb, leb}
use lib.ListN.{length}
use Rattle.meaning.specs.Bytes.{pick, put}
use Rattle.meaning.specs.State as meaning
use Rattle.meaning.specs.State.{Plate, none, with_line}
use Rattle.meaning.specs.Characters as characters
use Rattle.meaning.specs.Characters.{remaining, over, more, taken}
use Rattle.meaning.specs.Frames.{Outcome, still, up_to}
use Rattle.meaning.specs.Run as run
use Rattle.meaning.specs.Run.{Call, character, poll, measured, fault, power_on, step, closes, carried, lends}
use Rattle.meaning.proofs.Choices.{both_left, both_right}
use Rattle.line.specs.declared.characters.OpenFrame.{OpenFrame}
use Rattle.line.specs.Line.{line_of, Fits, Extends}
use Rattle.line.proofs.Tight.{remaining_back}
use Rattle.meaning.proofs.Puts.{put-nothing}
use Rattle.board.specs.declared.limits.Board.{Board}
use Rattle.std.proofs.Common.{Option, None, Ok}
use Rattle.board.specs.Board.{state_of, fits_in, refusal_on, carried_by, Steps}
use Rattle.board.specs.Quick.{TakesIn, ClosesNone}
use Rattle.board.proofs.Stepping.{put-own, stepped}

-- what the frame's number and the lent places are within
pub fits_told : (b : Board) (kept : List ℕ) → fits_in b kept ≡ true → Fits b.frame kept
unfolding fits_in
fits_told b kept e = record {
  few = leb-true b.frame.len 135 (both_left (leb b.frame.len 135) (eqb (length kept) 135) e);
  all = eqb-true (length kept) 135 (both_right (leb b.frame.len 135) (eqb (length kept) 135) e);
}

pub told-fits : (b : Board) (kept : List ℕ) → b.frame.len ≤ 135 → length kept ≡ 135 → fits_in b kept ≡ true
unfolding fits_in
told-fits b kept few all = rw (le-leb b.frame.len 135 few, eq-eqb (length kept) 135 all)

-- a call that closes nothing brings nothing, and memory is as it was
pub quiet_step : (p : Plate) (s : meaning.State) (m : List ℕ) (g : Call) → closes p s g ≡ false → step p s m g ≡ still (step p s m g).state m
unfolding step closes up_to still
quiet_step p s m (character t v bad) e = rw e
quiet_step p s m (poll t) e = rw e
quiet_step p s m (measured n) e = refl
quiet_step p s m (fault c) e = refl
quiet_step p s m power_on e = refl

-- the open frame takes a character in, as the meaning does
pub takes_in : (b : Board) (kept : List ℕ) (t v : ℕ) (bad : Bool) {f : OpenFrame} {kept' : List ℕ}
    → Extends (more (pick b.frame.begun (line_of b.frame kept) none) t v bad) kept f kept' → length kept' ≡ 135
    → TakesIn b kept t v bad (record { state = b.state; frame = f }) kept'
unfolding taken with_line
takes_in b kept t v bad {f} {kept'} x all = record {
  state = rw x.line;
  bytes = x.bytes;
  fits = told-fits (record { state = b.state; frame = f }) kept' x.few all;
}

-- the meaning's step, where no frame is over
module _ (p : Plate) (b : Board) (kept : List ℕ) (t : ℕ) (o : over p (state_of b kept) t ≡ false) where
  pub taken-quickly : {v : ℕ} {bad : Bool} {b' : Board} {kept' : List ℕ} → TakesIn b kept t v bad b' kept' → ClosesNone p b kept (character t v bad) b' kept'
  unfolding step closes up_to still
  taken-quickly x = record {
    none = o;
    state = λ m. rw o x.state;
    bytes = x.bytes ∙ ap (λ (s : meaning.State). put kept 0 s.line.kept) (sym x.state);
    fits = x.fits;
  }

  pub polled-quickly : fits_in b kept ≡ true → ClosesNone p b kept (poll t) b kept
  unfolding step closes up_to still
  polled-quickly fits = record { none = o; state = λ m. rw o; bytes = put-own kept b.frame.len; fits = fits }

-- what is carried, in the code's cases
abbrev pub carried_back : run.Carried → Option ℕ
carried_back run.nothing = None
carried_back (run.carries r) = remaining_back r

forth : (r : characters.Remaining) → carried_by true (remaining_back r) ≡ run.carries r
forth characters.no_frame_open = refl
forth (characters.ticks_left n) = refl

carried_forth : (p : Plate) (s : meaning.State) (g : Call) → carried_by (lends g) (carried_back (carried p s g)) ≡ carried p s g
unfolding lends carried
carried_forth p s (character t v bad) = forth (remaining p s t)
carried_forth p s (poll t) = forth (remaining p s t)
carried_forth p s (measured n) = refl
carried_forth p s (fault c) = refl
carried_forth p s power_on = refl

-- .. so where nothing is refused, the quick way is the call
pub quick_steps : (p : Plate) (b : Board) (k m w : List ℕ) (g : Call) {b' : Board} {k' : List ℕ} → refusal_on p b k m (length w) g ≡ 0
    → ClosesNone p b k g b' k' → Steps p b k m w g (Ok (record { board = b'; reply = None; remaining = carried_back (carried p (state_of b' k') g) })) k' m w
unfolding still
quick_steps p b k m w g {b'} {k'} e q =
    let z = carried_forth p (state_of b' k') g in
    let s = quiet_step p (state_of b k) m g q.none in
    stepped p b k m w g e refl (rw q.none) (z ∙ ap (λ (x : meaning.State). carried p x g) (q.state m)) (q.state m) (q.bytes ∙ ap (λ (x : meaning.State). put k 0 x.line.kept) (q.state m)) (sym (ap (λ (o : Outcome). o.memory) s))
    (put-nothing w 0 ∙ sym (ap (λ (o : Outcome). put w 0 o.reply) s)) (fits_told b' k' q.fits).few
