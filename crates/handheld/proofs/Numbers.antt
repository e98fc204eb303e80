-- A run is got back from its number. Assumes nothing.
use Prim.Native.Nat.{ℕ, ◌+◌, ◌*◌, ◌/◌, ◌%◌, ◌<◌}
use mathlib.Core.Path.{◌≡◌, refl, ap}
use mathlib.Core.Bool.{true, false}
use mathlib.Core.List.{List, [], ◌∷◌}
use native.Mathlib.Omega.{arith}
use Rattle.std.specs.Int.{w64, from_le_bytes}
use lib.Dec.{eqb}
use borrow.Author.Tests.{eq-eqb}
use Rattle.meaning.specs.Bytes.{arg, little}
use Rattle.programmer.specs.declared.run.Programmer.{Programmer}
use Rattle.programmer.specs.declared.step.Step.{Step}
use Rattle.programmer.specs.declared.step.Step.TheVariants.{Count, Look, Remove, Create, Store, Read, Lock}
use Rattle.programmer.specs.declared.step.Why.{Why}
use Rattle.programmer.specs.declared.step.Why.TheVariants.{Judgement, Error, Differs}
use Rattle.programmer.specs.declared.step.Standing.{Standing}
use Rattle.programmer.specs.declared.step.Standing.TheVariants.{At, Done, Failed}
use Rattle.handheld.specs.Numbers.{stage_part, field_part, status_part, why_of, number_part, standing_bytes, run_number, byte_in, step_in, why_in, standing_in, run_in, is_run}

-- ---- seven bytes

low : (a y : ℕ) → a < 256 → (a + 256 * y) % 256 ≡ a
low a y h = omega arith

high : (a y : ℕ) → a < 256 → (a + 256 * y) / 256 ≡ y
high a y h = omega arith

module _ (a b c d e p q : ℕ) (ha : a < 256) (hb : b < 256) (hc : c < 256) (hd : d < 256) (he : e < 256) (hp : p < 256) (hq : q < 256) where
  abbrev n₅ : ℕ
  n₅ = p + 256 * q

  abbrev n₄ : ℕ
  n₄ = e + 256 * n₅

  abbrev n₃ : ℕ
  n₃ = d + 256 * n₄

  abbrev n₂ : ℕ
  n₂ = c + 256 * n₃

  abbrev n₁ : ℕ
  n₁ = b + 256 * n₂

  abbrev n₀ : ℕ
  n₀ = a + 256 * n₁

  pub record Seven : Type 0 where
    pub b0 : byte_in 0 n₀ ≡ a
    pub b1 : byte_in 1 n₀ ≡ b
    pub b2 : byte_in 2 n₀ ≡ c
    pub b3 : byte_in 3 n₀ ≡ d
    pub b4 : byte_in 4 n₀ ≡ e
    pub b5 : byte_in 5 n₀ ≡ p
    pub b6 : byte_in 6 n₀ ≡ q

  pub seven : Seven
  unfolding byte_in
  seven = record {
    b0 = low a n₁ ha;
    b1 = rw (high a n₁ ha) (low b n₂ hb);
    b2 = rw (high a n₁ ha, high b n₂ hb) (low c n₃ hc);
    b3 = rw (high a n₁ ha, high b n₂ hb, high c n₃ hc) (low d n₄ hd);
    b4 = rw (high a n₁ ha, high b n₂ hb, high c n₃ hc, high d n₄ hd) (low e n₅ he);
    b5 = rw (high a n₁ ha, high b n₂ hb, high c n₃ hc, high d n₄ hd, high e n₅ he) (low p q hp);
    b6 = rw (high a n₁ ha, high b n₂ hb, high c n₃ hc, high d n₄ hd, high e n₅ he, high p q hp) (omega arith);
  }

-- ---- a standing by its five bytes

step_back : (st : Step) → step_in (stage_part st) (field_part st) (status_part st) ≡ st
unfolding step_in
step_back Count = refl
step_back (Look k) = refl
step_back (Remove k st) = refl
step_back (Create i) = refl
step_back (Store i) = refl
step_back (Read i) = refl
step_back (Lock i) = refl

not_done : (st : Step) → eqb (stage_part st) 8 ≡ false
not_done Count = refl
not_done (Look k) = refl
not_done (Remove k st) = refl
not_done (Create i) = refl
not_done (Store i) = refl
not_done (Read i) = refl
not_done (Lock i) = refl

why_back : (w : Why) → why_in (why_of w) (number_part w) ≡ w
unfolding why_in
why_back (Judgement n) = refl
why_back (Error e) = refl
why_back Differs = refl

has_why : (w : Why) → eqb (why_of w) 0 ≡ false
has_why (Judgement n) = refl
has_why (Error e) = refl
has_why Differs = refl

abbrev byte : Standing → ℕ → ℕ
byte y i = arg (standing_bytes y) i

standing-back : (y : Standing) → standing_in (byte y 0) (byte y 1) (byte y 2) (byte y 3) (byte y 4) ≡ y
unfolding standing_in
standing-back (At st) = rw (not_done st, step_back st)
standing-back Done = refl
standing-back (Failed st w) = rw (not_done st, has_why w, step_back st, why_back w)

-- ---- the whole run

abbrev pub SmallStep : Step → Type 0  -- its field and status are bytes
SmallStep st = (field_part st < 256) × (status_part st < 256)

abbrev pub Small : Standing → Type 0
Small (At st) = SmallStep st
Small Done = Unit
Small (Failed st w) = SmallStep st × (number_part w < 256)

small-stage : (st : Step) → stage_part st < 256
small-stage Count = omega arith
small-stage (Look k) = omega arith
small-stage (Remove k st) = omega arith
small-stage (Create i) = omega arith
small-stage (Store i) = omega arith
small-stage (Read i) = omega arith
small-stage (Lock i) = omega arith

small_why : (w : Why) → why_of w < 256
small_why (Judgement n) = omega arith
small_why (Error e) = omega arith
small_why Differs = omega arith

pub record FiveSmall (y : Standing) : Type 0 where
  pub s0 : byte y 0 < 256
  pub s1 : byte y 1 < 256
  pub s2 : byte y 2 < 256
  pub s3 : byte y 3 < 256
  pub s4 : byte y 4 < 256

pub five_small : (y : Standing) → Small y → FiveSmall y
five_small (At st) h = record { s0 = small-stage st; s1 = h.0; s2 = h.1; s3 = omega arith; s4 = omega arith }
five_small Done h = record { s0 = omega arith; s1 = omega arith; s2 = omega arith; s3 = omega arith; s4 = omega arith }
five_small (Failed st w) h = record { s0 = small-stage st; s1 = h.0.0; s2 = h.0.1; s3 = small_why w; s4 = h.1 }

five_number : (y : Standing) → little (standing_bytes y) ≡ byte y 0 + 256 * (byte y 1 + 256 * (byte y 2 + 256 * (byte y 3 + 256 * byte y 4)))
unfolding little
five_number (At st) = omega arith
five_number Done = omega arith
five_number (Failed st w) = omega arith

-- the number by the library's word
pub number_of : (x : Programmer) (s : List ℕ) (p a : ℕ) → s ≡ standing_bytes x.standing → p ≡ x.present % 256 → a ≡ x.address % 256
    → from_le_bytes w64 (arg s 0 ∷ arg s 1 ∷ arg s 2 ∷ arg s 3 ∷ arg s 4 ∷ p ∷ a ∷ 0 ∷ []) ≡ run_number x
unfolding run_number
number_of x s p a e f g = rw e (omega (arith, five_number x.standing, f, g))

module _ (x : Programmer) (h : Small x.standing) (few : x.present < 256) (near : x.address < 256) where
  abbrev y : Standing
  y = x.standing

  pub as_seven : run_number x ≡ byte y 0 + 256 * (byte y 1 + 256 * (byte y 2 + 256 * (byte y 3 + 256 * (byte y 4 + 256 * (x.present + 256 * x.address)))))
  unfolding run_number
  as_seven = omega (arith, five_number y)

  pub run-back : run_in (run_number x) ≡ x
  unfolding run_in
  run-back =
      let s = five_small y h in
      let v = seven (byte y 0) (byte y 1) (byte y 2) (byte y 3) (byte y 4) x.present x.address s.s0 s.s1 s.s2 s.s3 s.s4 few near in
      rw (as_seven, v.b0, v.b1, v.b2, v.b3, v.b4, v.b5, v.b6, standing-back y)

  pub is_run_lem : is_run (run_number x) ≡ true
  unfolding is_run
  is_run_lem = eq-eqb (run_number (run_in (run_number x))) (run_number x) (ap run_number run-back)
