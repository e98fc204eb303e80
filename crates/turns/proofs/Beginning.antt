-- The first record of a tape is a good plate, or bad. Assumes nothing.
use Prim.Native.Nat.{ℕ}
use mathlib.Core.Path.{◌≡◌, refl, sym, ap, subst, ◌∙◌}
use mathlib.Core.Bool.{Bool, true, false}
use mathlib.Core.List.{List}
use native.Mathlib.Nat.{zero-add}
use Rattle.std.specs.Prelude.{Result, Ok, Err}
use Rattle.records.specs.declared.record.Unread.{Unread}
use Rattle.records.specs.declared.record.Unread.TheVariants.{Bad}
use Rattle.meaning.specs.Bytes.{pick, zeros}
use Rattle.meaning.specs.State as meaning
use Rattle.meaning.specs.State.{label_length, plate_ok}
use Rattle.line.specs.declared.plate.Plate.{Plate}
use Rattle.line.specs.Line.{plate_of}
use Rattle.tape.specs.declared.kinds.Event.{Event}
use Rattle.tape.specs.declared.kinds.Event.TheVariants as event
use Rattle.tape.specs.Kinds.{Said, plate, call, unfit}
use Rattle.tape.specs.Answers.{turn, begun}
use Rattle.tape.specs.Reader.{said_of}
use Rattle.tape.specs.Passes.{next_record, says}
use Rattle.tape.proofs.Events.{no_label}
use Rattle.turns.specs.Hearing.{Readout, not_yet, tells, readout_at, Past, Hears}
use Rattle.turns.specs.Openings.{tape_plate, numbers_of, checked, begun_by, opened_by, Opens}
use Rattle.turns.specs.declared.opening.Opened.{Opened}
use Rattle.turns.proofs.Hearing.{hears}

-- a record that is no plate begins nothing
pub not-plate : (e : Event) (next : ℕ) → ((t p a b u : ℕ) → e ≡ event.Plate t p a b u → ⊥) → Err Bad ≡ begun_by (said_of e) next
not-plate (event.Plate t p a b u) next k = absurd (k t p a b u refl)
not-plate (event.Character t v f) next k = refl
not-plate (event.Poll t) next k = refl
not-plate (event.Measured n) next k = refl
not-plate (event.Fault c) next k = refl
not-plate event.PowerOn next k = refl
not-plate event.Unfit next k = refl

-- and one that is a plate begins by its numbers
module _ (e : Event) (next : ℕ) {t b a k u : ℕ} (p : Plate) (is : e ≡ event.Plate t b a k u)
    (same : p ≡ record { total = t; bits = b; address = a; ticks = k; pause = u }) where
  pub plate-begins : plate_ok (tape_plate p) ≡ true → Ok (record { plate = p; next = next }) ≡ begun_by (said_of e) next
  unfolding checked
  plate-begins h = rw (is, same, rw same at h)

  pub plate-refused : plate_ok (tape_plate p) ≡ false → Err Bad ≡ begun_by (said_of e) next
  unfolding checked
  plate-refused h = rw (is, rw same at h)

-- a plate or a call is not unfit
abbrev fitting : Said → Type 0
fitting (plate p) = Unit
fitting (call g) = Unit
fitting unfit = ⊥

-- a plate with no label bytes but zeros is one of the tape
of_tape : (p : meaning.Plate) → p.label ≡ zeros label_length → p ≡ tape_plate (numbers_of p)
of_tape p e = ap (plate_of (numbers_of p)) e

module _ (window : List ℕ) where
  plate_opens : (p : Plate) (next : ℕ) → next_record window ≡ says (plate (tape_plate p)) → Past 0 window next → Opens window (checked (tape_plate p) next)
  unfolding checked turn begun
  plate_opens p next h past = go (plate_ok (tape_plate p)) refl
    where
      go : (b : Bool) → plate_ok (tape_plate p) ≡ b → Opens window (pick b (Ok (record { plate = p; next = next })) (Err Bad))
      go true e = (plate (tape_plate p), record { good = e; heard = h; turned = λ place. rw e; whole = rw zero-add at past.whole; inside = past.inside })
      go false e = (plate (tape_plate p), record { heard = h; turned = λ place. rw e })

  opens_told : (x : Readout) → Hears 0 window x → Opens window (opened_by x)
  unfolding turn
  opens_told not_yet h = sym h.heard
  opens_told (tells (plate p) next) h =
      let same = of_tape p (no_label window p (sym h.heard)) in
      rw same (plate_opens (numbers_of p) next (rw same at (sym h.heard)) (h.next (λ e. subst fitting e tt)))
  opens_told (tells (call g) next) h = (call g, record { heard = sym h.heard; turned = λ place. refl })
  opens_told (tells unfit next) h = (unfit, record { heard = sym h.heard; turned = λ place. refl })

  pub opens_as : (r v : Result Opened Unread) → r ≡ opened_by (readout_at 0 window) → r ≡ v → Opens window v
  opens_as r v e k = rw (sym k ∙ e) (opens_told (readout_at 0 window) (hears 0 window (readout_at 0 window) refl))
