-- What a plate within its limits gives its users (01, "Plate"). Assumes nothing.
use Prim.Native.Nat.{ℕ, ◌≤◌}
use native.Mathlib.Omega.{arith}
use native.Mathlib.Nat.{mul-le-mul_left, mul-pos}
use mathlib.Core.Path.{◌≡◌, refl, subst⁻¹}
use mathlib.Core.Bool.{Bool, true, false, false≢true}
use mathlib.Core.List.{List, [], ◌∷◌}
use lib.Dec.{eqb, leb}
use lib.ListN.{length}
use borrow.Author.Tests.{eqb-true, leb-true}
use Rattle.meaning.specs.Bytes.{both, either, among}
use Rattle.meaning.specs.State.{Plate, label_length, plate_ok, between}
use Rattle.meaning.specs.Characters.{full_pause}
use Rattle.meaning.proofs.Choices.{both_left, both_right}

-- a test holds of every number of a list
abbrev all : (ℕ → Bool) → List ℕ → Bool
all f [] = true
all f (y ∷ l) = both (f y) (all f l)

-- and so of one among it
among_so : (f : ℕ → Bool) (x : ℕ) (l : List ℕ) → all f l ≡ true → among x l ≡ true → f x ≡ true
unfolding among
among_so f x [] h e = absurd (false≢true e)
among_so f x (y ∷ l) h e = go (eqb x y) refl e (among_so f x l (both_right (f y) (all f l) h))
  where
    go : (t : Bool) → eqb x y ≡ t → either t (among x l) ≡ true → (among x l ≡ true → f x ≡ true) → f x ≡ true
    go true k e g = subst⁻¹ (λ (n : ℕ). f n ≡ true) (eqb-true x y k) (both_left (f y) (all f l) h)
    go false k e g = g e

module _ (p : Plate) (ok : plate_ok p ≡ true) where
  abbrev rest₂ : Bool
  rest₂ = both (leb p.address 31) (both (among p.ticks (1 ∷ 2 ∷ 4 ∷ 8 ∷ 16 ∷ 32 ∷ 64 ∷ [])) (both (among p.pause (22 ∷ 55 ∷ [])) (eqb (length p.label) label_length)))

  pub total-fits : p.total ≤ 112
  unfolding plate_ok
  total-fits = leb-true p.total 112 (both_right (leb 1 p.total) (leb p.total 112) (both_left (between 1 112 p.total) (both (between 1 32 p.bits) rest₂) ok))

  pub few_bits : p.bits ≤ 32
  unfolding plate_ok
  few_bits =
      leb-true p.bits 32 (both_right (leb 1 p.bits) (leb p.bits 32)
      (both_left (between 1 32 p.bits) rest₂ (both_right (between 1 112 p.total) (both (between 1 32 p.bits) rest₂) ok)))

  pub low-address : p.address ≤ 31
  unfolding plate_ok
  low-address =
      leb-true p.address 31 (both_left (leb p.address 31) _
      (both_right (between 1 32 p.bits) rest₂ (both_right (between 1 112 p.total) (both (between 1 32 p.bits) rest₂) ok)))

  abbrev ticks_known : Bool
  ticks_known = among p.ticks (1 ∷ 2 ∷ 4 ∷ 8 ∷ 16 ∷ 32 ∷ 64 ∷ [])

  abbrev pause_known : Bool
  pause_known = among p.pause (22 ∷ 55 ∷ [])

  abbrev labelled : Bool
  labelled = eqb (length p.label) label_length

  known : both ticks_known (both pause_known labelled) ≡ true
  unfolding plate_ok
  known =
      both_right (leb p.address 31) (both ticks_known (both pause_known labelled))
      (both_right (between 1 32 p.bits) rest₂ (both_right (between 1 112 p.total) (both (between 1 32 p.bits) rest₂) ok))

  ticks-within : between 1 64 p.ticks ≡ true
  ticks-within = among_so (between 1 64) p.ticks (1 ∷ 2 ∷ 4 ∷ 8 ∷ 16 ∷ 32 ∷ 64 ∷ []) refl (both_left ticks_known (both pause_known labelled) known)

  pause-within : between 1 55 p.pause ≡ true
  pause-within = among_so (between 1 55) p.pause (22 ∷ 55 ∷ []) refl (both_left pause_known labelled (both_right ticks_known (both pause_known labelled) known))

  pub few-ticks : p.ticks ≤ 64
  few-ticks = leb-true p.ticks 64 (both_right (leb 1 p.ticks) (leb p.ticks 64) ticks-within)

  pub short-pause : p.pause ≤ 55
  short-pause = leb-true p.pause 55 (both_right (leb 1 p.pause) (leb p.pause 55) pause-within)

  -- the full pause: one tick at least, 55 × 64 at most
  pub some-pause : 1 ≤ full_pause p
  unfolding full_pause
  some-pause = mul-pos (leb-true 1 p.pause (both_left (leb 1 p.pause) (leb p.pause 55) pause-within)) (leb-true 1 p.ticks (both_left (leb 1 p.ticks) (leb p.ticks 64) ticks-within))

  pub longest_pause : full_pause p ≤ 3520
  unfolding full_pause
  longest_pause = omega (arith, mul-le-mul_left p.pause few-ticks, short-pause)

  pub whole-label : length p.label ≡ label_length
  whole-label = eqb-true (length p.label) label_length (both_right pause_known labelled (both_right ticks_known (both pause_known labelled) known))
