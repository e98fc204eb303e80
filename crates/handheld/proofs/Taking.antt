-- What is handed in with a tape, and what comes back of it. Assumes nothing.
use Prim.Native.Nat.{ℕ, ◌<◌}
use mathlib.Core.Path.{◌≡◌, refl, sym, ap, ◌∙◌}
use mathlib.Core.Bool.{Bool, true, false}
use mathlib.Core.List.{List}
use native.Mathlib.Omega.{arith}
use lib.Dec.{T, eqb}
use lib.ListN.{get_or}
use borrow.Author.Tests.{eq-eqb, ne_eqb}
use Rattle.meaning.specs.Bytes.{pick, both}
use Rattle.meaning.specs.Bench.{address_ok}
use Rattle.meaning.proofs.Choices.{both_right, true-told}
use Rattle.std.specs.Prelude.{Ok, Err}
use Rattle.programmer.specs.Wishes.{Checked, good, checked_tape, wish_of}
use Rattle.programmer.specs.Running.{at_first, started_by, progress_of, is_possible}
use Rattle.programmer.specs.declared.run.Programmer.{Programmer}
use Rattle.programmer.specs.declared.run.StartRefusal.{StartRefusal}
use Rattle.programmer.specs.declared.run.StartRefusal.TheVariants as start
use Rattle.programmer.specs.declared.wish.TapeFault.{TapeFault}
use Rattle.programmer.specs.declared.wish.TapeFault.TheVariants.{BadRecord, WrongSize}
use Rattle.programmer.specs.declared.count.Progress.{Progress}
use Rattle.programmer.proofs.Whole.{good-is-whole, place_in, low-place}
use Rattle.programmer.proofs.Counting.{few_present, progress-few}
use Rattle.handheld.specs.Numbers.{run_number, run_in, is_run}
use Rattle.handheld.specs.Entries.{Given, place_of, start_refusal, given_with, given_by}
use Rattle.handheld.specs.declared.given.Refusal.{Refusal}
use Rattle.handheld.specs.declared.given.Refusal.TheVariants.{Tape, R3}

-- ---- the place of a fault has 32 bits

module _ (t : List ℕ) (B : (i : ℕ) → get_or t i 0 < 256) where
  pub placed_low : (f : TapeFault) → Err f ≡ checked_tape t → place_of (Tape f) < 0x100000000
  placed_low (BadRecord at) e = omega (arith, low-place t B, ap place_in e)
  placed_low (WrongSize at) e = omega (arith, low-place t B, ap place_in e)

  pub started_low : (n : ℕ) (w : StartRefusal) → Err w ≡ started_by n (checked_tape t) → place_of (start_refusal w) < 0x100000000
  started_low n start.R5 e = omega arith
  started_low n (start.Tape f) e = go (checked_tape t) refl e
    where
      none : {A : Type 0} (q : Bool) → Err (start.Tape f) ≡ pick q (Ok (at_first n)) (Err start.R5) → A
      none true e = absurd cc
      none false e = absurd cc

      go : (c : Checked) → checked_tape t ≡ c → Err (start.Tape f) ≡ started_by n c → place_of (Tape f) < 0x100000000
      go (Ok u) q e = none (address_ok n) e
      go (Err g) q e = placed_low f (let h : f ≡ g = cc in rw (q, h))

  pub given_low : (n : ℕ) (r : Refusal) → Err r ≡ given_by t n → place_of r < 0x100000000
  given_low n r e = go (checked_tape t) refl e
    where
      none : (q : Bool) → Err r ≡ pick q (Ok (run_in n)) (Err R3) → place_of r < 0x100000000
      none true e = absurd cc
      none false e = let h : r ≡ R3 = cc in rw h (omega arith)

      go : (c : Checked) → checked_tape t ≡ c → Err r ≡ given_with c t n → place_of r < 0x100000000
      go (Ok u) q e = none (both (is_run n) (is_possible (wish_of t) (run_in n))) e
      go (Err f) q e = let h : r ≡ Tape f = cc in rw h (placed_low f (sym q))

-- ---- a run that is handed in

module _ (t : List ℕ) (n : ℕ) where
  module _ (whole : checked_tape t ≡ good) (x : Programmer) (is : x ≡ run_in n) where
    pub given_other : (r : ℕ) → r ≡ run_number x → (r ≡ n → ⊥) → Err R3 ≡ given_by t n
    unfolding is_run
    given_other r h d =
        let f : eqb (run_number (run_in n)) n ≡ false = ne_eqb (run_number (run_in n)) n (λ q. d (h ∙ ap run_number is ∙ q)) in
        rw (whole, f)

    module _ (r : ℕ) (h : r ≡ run_number x) (same : r ≡ n) where
      its_number : eqb (run_number (run_in n)) n ≡ true
      its_number = eq-eqb (run_number (run_in n)) n (sym (h ∙ ap run_number is) ∙ same)

      pub given_run : (q : Bool) → q ≡ is_possible (wish_of t) x → q ≡ true → Ok x ≡ given_by t n
      unfolding is_run
      given_run q p f =
          let g : is_possible (wish_of t) (run_in n) ≡ true = ap (is_possible (wish_of t)) (sym is) ∙ sym p ∙ f in
          rw (whole, its_number, g, is)

  -- what is taken could have been left by a run of this tape, and the tape is good
  pub record Held (x : Programmer) : Type 0 where
    pub whole : checked_tape t ≡ good
    pub could : T (is_possible (wish_of t) x)

  abbrev HeldBy : Given → Type 0
  HeldBy (Ok x) = Held x
  HeldBy (Err r) = Unit

  held_by : HeldBy (given_by t n)
  held_by = go (checked_tape t) refl
    where
      choose : (q : Bool) → checked_tape t ≡ good → both (is_run n) (is_possible (wish_of t) (run_in n)) ≡ q → HeldBy (pick q (Ok (run_in n)) (Err R3))
      choose true g e = record { whole = g; could = true-told (is_possible (wish_of t) (run_in n)) (both_right (is_run n) (is_possible (wish_of t) (run_in n)) e) }
      choose false g e = tt

      go : (c : Checked) → checked_tape t ≡ c → HeldBy (given_by t n)
      go (Ok u) q = rw q (choose (both (is_run n) (is_possible (wish_of t) (run_in n))) q refl)
      go (Err f) q = rw q tt

  pub held-run : (v : Given) (x : Programmer) → v ≡ given_by t n → v ≡ Ok x → Held x
  held-run v x e h = rw (sym e ∙ h) at held_by

-- ---- qp_progress

pub progress_low : (t : List ℕ) (n : ℕ) (v : Given) (x : Programmer) (g : Progress) → v ≡ given_by t n → v ≡ Ok x → g ≡ progress_of (wish_of t) x
    → (g.answered < 0x80000000) × (g.all < 0x80000000)
progress_low t n v x g e h k =
    let H = held-run t n v x e h in
    let f = progress-few (wish_of t) x (good-is-whole t H.whole).few (few_present (wish_of t) x H.could) in
    rw k (omega (arith, f.0), omega (arith, f.1))
