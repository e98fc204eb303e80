-- The calls from C do the meaning's step, and a refused one changes nothing. Assumes nothing.
use Prim.Native.Nat.{ℕ, ◌<◌}
use mathlib.Core.Path.{◌≡◌, refl, sym, ap, subst, ◌∙◌}
use mathlib.Core.Bool.{Bool, true, false, not}
use mathlib.Core.List.{List}
use lib.Dec.{T, eqb}
use lib.ListN.{length, drop}
use Rattle.meaning.specs.State.{State}
use Rattle.meaning.specs.Frames.{Outcome, still}
use Rattle.meaning.specs.Run.{Call, poll, step, Held, untouched, called, refused_by}
use Rattle.meaning.specs.Bench.{warning}
use Rattle.meaning.specs.Demands.{waits}
use Rattle.meaning.proofs.Calls as calls
use Rattle.meaning.proofs.Lines.{poll_without_frame}
use Rattle.meaning.proofs.Warning.{warns-exactly}
use Rattle.quicksetter.specs.Calls.{is_image, plate_held, state_held, called_by, call_number, image_after, Called}
use Rattle.quicksetter.proofs.Heads.{whole_as_it_was}
use Rattle.quicksetter.specs.Promises.{QsSteps, QsWarnsExactly, QsPollWithoutFrame, Untouched, QsRefusedUntouched, QsNoImageUntouched}

pub on_image : (img m w : List ℕ) (g : Call) → is_image img ≡ true → called_by img m w g ≡ called (plate_held img) (state_held img) m w g
unfolding called_by
on_image img m w g e = rw e

count-told : (h : Held) → h.refusal ≡ 0 → call_number h ≡ h.count
unfolding call_number
count-told h e = rw e

pub qs_steps : QsSteps
qs_steps img m w g r img' m' w' c e free =
    let k = on_image img m w g e in
    let s = calls.served_otherwise (plate_held img) (state_held img) m w g free in
    let n : r ≡ (called (plate_held img) (state_held img) m w g).count = c.answer ∙ ap call_number k ∙ count-told (called (plate_held img) (state_held img) m w g) s.unrefused in
    let q : w' ≡ (called (plate_held img) (state_held img) m w g).room = c.room ∙ ap (λ (h : Held). h.room) k in
    record {
      unrefused = refl;
      after = c.state ∙ ap (λ (h : Held). h.state) k ∙ s.after;
      kept = c.memory ∙ ap (λ (h : Held). h.memory) k ∙ s.kept;
      length_told = n ∙ s.length_told;
      sleep_told = ap (λ (h : Held). h.sleep) k ∙ s.sleep_told;
      front = rw (n, q) s.front;
      rest = rw (n, q) s.rest;
    }

pub qs_warns-exactly : QsWarnsExactly
qs_warns-exactly img m w g r img' m' w' c e free some =
    let s = qs_steps img m w g r img' m' w' c e free in
    ap warning s.front ∙ warns-exactly (plate_held img) (state_held img) m g (subst (λ (n : ℕ). 0 < n) s.length_told some) ∙ ap (λ (x : State). waits x.queue) (sym s.after)

pub qs_poll_without_frame : QsPollWithoutFrame
unfolding image_after still
qs_poll_without_frame img m w now r img' m' w' c e low free n =
    let s = qs_steps img m w (poll now) r img' m' w' c e free in
    let o = calls.served_otherwise (plate_held img) (state_held img) m w (poll now) free in
    let q : step (plate_held img) (state_held img) m (poll now) ≡ still (state_held img) m = poll_without_frame (plate_held img) (state_held img) m now n in
    let z : r ≡ 0 = s.length_told ∙ ap (λ (x : Outcome). length x.reply) q in
    record {
      number = z;
      image = c.image ∙ rw (on_image img m w (poll now) e, o.unrefused, o.after, q) (whole_as_it_was img e low);
      memory = s.kept ∙ ap (λ (x : Outcome). x.memory) q;
      room = subst (λ (k : ℕ). drop k w' ≡ drop k w) z s.rest;
    }

-- a refusal by its number: nothing is done
module _ (img m w : List ℕ) (g : Call) {r : ℕ} {img' m' w' : List ℕ} (c : Called img m w g r img' m' w') where
  nothing-done : (n : ℕ) → eqb n 0 ≡ false → called_by img m w g ≡ untouched n (state_held img) m w
      → Untouched n img m w r img' m' w'
  unfolding call_number image_after
  nothing-done n z k =
      record {
        number = c.answer ∙ rw (k, z);
        image = c.image ∙ rw (k, z);
        memory = c.memory ∙ ap (λ (h : Held). h.memory) k;
        room = c.room ∙ ap (λ (h : Held). h.room) k;
      }

is-not : (b : Bool) → T (not b) → b ≡ false
is-not true h = absurd h
is-not false h = refl

pub qs_refused-untouched : QsRefusedUntouched
qs_refused-untouched img m w g r img' m' w' c e h =
    let n = refused_by (plate_held img) (state_held img) m (length w) g in
    nothing-done img m w g c n (is-not (eqb n 0) h) (on_image img m w g e ∙ calls.refused-untouched (plate_held img) (state_held img) m w g h)

pub qs_no_image-untouched : QsNoImageUntouched
unfolding called_by
qs_no_image-untouched img m w g r img' m' w' c e = nothing-done img m w g c 1 refl (rw e)
