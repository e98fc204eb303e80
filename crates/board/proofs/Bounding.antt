-- R1 to R3: the tests one by one, and what a call that is not refused may rely on. Assumes nothing.
use Prim.Native.Nat.{ℕ, ◌≤◌, ◌<◌}
use native.Mathlib.Omega.{arith}
use mathlib.Core.Path.{◌≡◌, refl, sym, ap}
use mathlib.Core.Bool.{Bool, true, false, not}
use mathlib.Core.List.{List}
use Rattle.std.proofs.Common.{Result, Ok, Err}
use borrow.Author.Tests.{lt-ltb, le-ltb, le-leb, lt-leb, eq-eqb, ne_eqb, leb-true, eqb-true, eqb-false, ltb-false}
use lib.Dec.{eqb, leb, ltb}
use lib.ListN.{length, take, length-take}
use Rattle.meaning.specs.Bytes.{pick, both, either}
use Rattle.meaning.specs.State.{Plate, plate_ok, state_ok}
use Rattle.meaning.specs.Fields.{memory_length}
use Rattle.meaning.specs.Run.{Call, poll, refused_by, lends}
use Rattle.line.specs.declared.plate.Plate as line
use Rattle.line.specs.Line.{plate_of}
use Rattle.board.specs.declared.limits.Board.{Board}
use Rattle.board.specs.Work.{Ready}
use Rattle.board.specs.declared.calls.Refusal.{Refusal}
use Rattle.board.specs.declared.calls.Refusal.TheVariants.{R1, R2, R3}
use Rattle.board.specs.Board.{state_of, fits_in, within, taken_if, refusal_on, refused_as, refusal_number}
use Rattle.meaning.proofs.Choices.{true-told, both_left, both_true, both_false, and_both}
use Rattle.meaning.proofs.Calls.{few_refusals}
use Rattle.meaning.proofs.Limits.{Lim, to_lim}

pub lends-poll : (t : ℕ) → lends (poll t) ≡ true
unfolding lends
lends-poll t = refl

-- 02, Req 01: the label bytes are 41
pub bad-label : (p : Plate) → (length p.label ≡ 41 → ⊥) → plate_ok p ≡ false
unfolding plate_ok
bad-label p n = simp (ne_eqb (length p.label) 41 n, both_false)

few-taken : (n : ℕ) (kept : List ℕ) → length kept ≡ 135 → length (take n kept) ≤ 135
few-taken n kept all = simp length-take (omega arith)

module _ (p : Plate) (b : Board) (kept : List ℕ) where
  pub bad-plate : plate_ok p ≡ false → false ≡ within p b kept
  unfolding within
  bad-plate e = rw e (sym (both_false (leb b.frame.len 135)))

  pub too_many : 135 < b.frame.len → false ≡ within p b kept
  unfolding within
  too_many h = rw (lt-leb b.frame.len 135 h)

  pub by_state : {t : Bool} → plate_ok p ≡ true → b.frame.len ≤ 135 → length kept ≡ 135 → (length (take b.frame.len kept) ≤ 135 → t ≡ state_ok p (state_of b kept))
      → t ≡ within p b kept
  unfolding within
  by_state e h all f = rw (le-leb b.frame.len 135 h, e) (f (few-taken b.frame.len kept all))

-- a test that fails is R1
pub refused_one : {A : Type 0} (x : A) {t : Bool} → false ≡ t → Err R1 ≡ taken_if t x
refused_one x e = rw (← e)

pub taken_one : {A : Type 0} (x : A) {t : Bool} → true ≡ t → Ok x ≡ taken_if t x
taken_one x e = rw (← e)

-- .., and what that says of the limits
r1-told : {A : Type 0} (x : A) {e : Refusal} (t : Bool) → Err e ≡ taken_if t x → (e ≡ R1) × (t ≡ false)
r1-told x true h = cc
r1-told x false h = (cc, refl)

pub none-told : {A : Type 0} (x : A) {y : A} (t : Bool) → Ok y ≡ taken_if t x → t ≡ true
none-told x true h = refl
none-told x false h = cc

-- R1 by its tests: enough places, plate, state
within_told : (x y z : Bool) (n : ℕ) → pick x (pick (either (not y) (not z)) 1 n) 1 ≡ pick (both x (both y z)) n 1
within_told true true true n = refl
within_told true true false n = refl
within_told true false z n = refl
within_told false y z n = refl

module _ (p : Plate) (b : Board) (k m : List ℕ) (r : ℕ) (g : Call) where
  pub too_few_places : (length k ≡ 135 → ⊥) → Err R1 ≡ refused_as (refusal_on p b k m r g) (tt {0})
  unfolding refusal_on fits_in refused_as
  too_few_places h = rw (ne_eqb (length k) 135 h, both_false (leb b.frame.len 135))

  module _ (all : length k ≡ 135) where
    -- what is left where R1 does not apply
    by_limits : refusal_on p b k m r g ≡ pick (within p b k) (pick (lends g) (pick (not (eqb (length m) (memory_length p.total))) 2 (pick (ltb r 134) 3 0)) 0) 1
    unfolding refusal_on refused_by fits_in within
    by_limits =
        rw (eq-eqb (length k) 135 all, and_both (leb b.frame.len 135) true, both_true (leb b.frame.len 135))
        (within_told (leb b.frame.len 135) (plate_ok p) (state_ok p (state_of b k)) _)

    pub told_r1 : {A : Type 0} (x : A) {e : Refusal} → Err e ≡ taken_if (within p b k) x → Err e ≡ refused_as (refusal_on p b k m r g) x
    unfolding refused_as
    told_r1 x h = let t = r1-told x (within p b k) h in rw (by_limits, t.1, t.0)

    -- of a call that lends nothing: R1 alone
    pub alone_by : lends g ≡ false → refusal_on p b k m r g ≡ pick (within p b k) 0 1
    alone_by l = rw (by_limits, l)

    -- of one that lends: R1 to R3 in that order
    module _ (fine : Ok (tt {0}) ≡ taken_if (within p b k) (tt {0})) (l : lends g ≡ true) where
      rest : refusal_on p b k m r g ≡ pick (not (eqb (length m) (memory_length p.total))) 2 (pick (ltb r 134) 3 0)
      rest = rw (by_limits, none-told (tt {0}) (within p b k) fine, l)

      pub told_r2 : (length m ≡ memory_length p.total → ⊥) → Err R2 ≡ refused_as (refusal_on p b k m r g) (tt {0})
      unfolding refused_as
      told_r2 h = rw (rest, ne_eqb (length m) (memory_length p.total) h)

      pub told_r3 : length m ≡ memory_length p.total → r < 134 → Err R3 ≡ refused_as (refusal_on p b k m r g) (tt {0})
      unfolding refused_as
      told_r3 h i = rw (rest, eq-eqb (length m) (memory_length p.total) h, lt-ltb r 134 i)

      pub told_none : length m ≡ memory_length p.total → 134 ≤ r → Ok (tt {0}) ≡ refused_as (refusal_on p b k m r g) (tt {0})
      unfolding refused_as
      told_none h i = rw (rest, eq-eqb (length m) (memory_length p.total) h, le-ltb r 134 i)

-- R1 to R3 have no higher number
pub refusal-few : (p : Plate) (b : Board) (kept m : List ℕ) (r : ℕ) (g : Call) → refusal_on p b kept m r g ≤ 3
unfolding refusal_on
refusal-few p b kept m r g = go (fits_in b kept)
  where
    go : (x : Bool) → pick x (refused_by p (state_of b kept) m r g) 1 ≤ 3
    go true = few_refusals p (state_of b kept) m r g
    go false = omega arith

-- ---- refusals by number and by case

-- by its number
pub as_told : {A : Type 0} (x : A) {n k : ℕ} → n ≡ k → refused_as n x ≡ refused_as k x
as_told x e = ap (λ (i : ℕ). refused_as i x) e

-- what is refused, and what is not
pub some-refused : {A : Type 0} (n : ℕ) (x : A) {e : Refusal} → Err e ≡ refused_as n x → n ≡ 0 → ⊥
unfolding refused_as
some-refused n x h z = let k = rw z at h in cc

pub none-refused : {A : Type 0} (n : ℕ) (x : A) {y : A} → Ok y ≡ refused_as n x → n ≡ 0
unfolding refused_as
none-refused {A} n x {y} = go (eqb n 0) (eqb n 1) (eqb n 2) refl
  where
    go : (s t u : Bool) → eqb n 0 ≡ s → ◌≡◌ {A = Result A Refusal} (Ok y) (pick s (Ok x) (pick t (Err R1) (pick u (Err R2) (Err R3)))) → n ≡ 0
    go true t u k e = eqb-true n 0 k
    go false true u k e = cc
    go false false true k e = cc
    go false false false k e = cc

-- a refusal is the same, whatever else would have come of the call
pub refused-alike : {A B : Type 0} (n : ℕ) (x : A) (y : B) {e : Refusal} → (n ≡ 0 → ⊥) → Err e ≡ refused_as n x → Err e ≡ refused_as n y
unfolding refused_as
refused-alike {A} {B} n x y {e} h = rw (ne_eqb n 0 h) (go (eqb n 1) (eqb n 2))
  where
    go : (t u : Bool) → ◌≡◌ {A = Result A Refusal} (Err e) (pick t (Err R1) (pick u (Err R2) (Err R3))) → ◌≡◌ {A = Result B Refusal} (Err e) (pick t (Err R1) (pick u (Err R2) (Err R3)))
    go true u i = cc
    go false true i = cc
    go false false i = cc

-- 01's number of a refusal comes back
pub number-back : {A : Type 0} (n : ℕ) (x : A) → n ≤ 3 → refusal_number (refused_as n x) ≡ n
unfolding refused_as
number-back n x h = go (eqb n 0) (eqb n 1) (eqb n 2) refl refl refl
  where
    go : (s t u : Bool) → eqb n 0 ≡ s → eqb n 1 ≡ t → eqb n 2 ≡ u → refusal_number (pick s (Ok x) (pick t (Err R1) (pick u (Err R2) (Err R3)))) ≡ n
    go true t u i j k = sym (eqb-true n 0 i)
    go false true u i j k = sym (eqb-true n 1 j)
    go false false true i j k = sym (eqb-true n 2 k)
    go false false false i j k = omega (arith, eqb-false n 0 i, eqb-false n 1 j, eqb-false n 2 k)

pub few-kept : (p : Plate) (b : Board) (k : List ℕ) → within p b k ≡ true → b.frame.len ≤ 135
unfolding within
few-kept p b k e = leb-true b.frame.len 135 (both_left (leb b.frame.len 135) (both (plate_ok p) (state_ok p (state_of b k))) e)

-- what is known where nothing is refused
pub record Passed (x w y z s t : Bool) : Type 0 where
  pub few : x ≡ true
  pub all : w ≡ true
  pub plate : y ≡ true
  pub state : z ≡ true
  pub size : s ≡ true
  pub wide : t ≡ false

passed : (x w y z s t : Bool) → ◌≡◌ {A = ℕ} (pick (both x w) (pick (either (not y) (not z)) 1 (pick (not s) 2 (pick t 3 0))) 1) 0 → Passed x w y z s t
passed false w y z s t e = absurd (omega arith)
passed true false y z s t e = absurd (omega arith)
passed true true false z s t e = absurd (omega arith)
passed true true true false s t e = absurd (omega arith)
passed true true true true false t e = absurd (omega arith)
passed true true true true true true e = absurd (omega arith)
passed true true true true true false e = record { few = refl; all = refl; plate = refl; state = refl; size = refl; wide = refl }

module _ (p : Plate) (b : Board) (k m : List ℕ) (r : ℕ) (g : Call) (l : lends g ≡ true) (e : refusal_on p b k m r g ≡ 0) where
  pub facts : Passed (leb b.frame.len 135) (eqb (length k) 135) (plate_ok p) (state_ok p (state_of b k)) (eqb (length m) (memory_length p.total)) (ltb r 134)
  unfolding refusal_on refused_by fits_in
  facts = passed _ _ _ _ _ _ (rw l at e)

  limits : Lim p (state_of b k)
  limits = to_lim p (state_of b k) (true-told (state_ok p (state_of b k)) facts.state)

-- .. as `close` and `with_character` ask for it
pub ready : (p : line.Plate) (label : List ℕ) (b : Board) (k m w : List ℕ) (g : Call) → lends g ≡ true → refusal_on (plate_of p label) b k m (length w) g ≡ 0
    → Ready p label b.state b.frame k m w
ready p label b k m w g l e =
    let f = facts (plate_of p label) b k m (length w) g l e in
    let within-limits = limits (plate_of p label) b k m (length w) g l e in
    record {
      plate = f.plate;
      counter = within-limits.counts;
      address = within-limits.placed;
      fits = record { few = leb-true b.frame.len 135 f.few; all = eqb-true (length k) 135 f.all };
      size = eqb-true (length m) (memory_length p.total) f.size;
      room = ltb-false (length w) 134 f.wide;
    }
