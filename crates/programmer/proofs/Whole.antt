-- A good tape is a wish from its first byte to its last. Assumes nothing.
use Prim.Native.Nat.{ℕ, zero, suc, ◌+◌, ◌-◌, ◌*◌, ◌≤◌, ◌<◌}
use mathlib.Core.Path.{◌≡◌, refl, ap}
use mathlib.Core.Bool.{Bool, true, false, false≢true}
use mathlib.Core.List.{List, [], ◌∷◌}
use native.Mathlib.Omega.{arith}
use lib.Dec.{eqb, leb}
use lib.ListN.{length, get_or, drop, length-drop}
use lib.Seq.{get_or-drop}
use borrow.Author.Tests.{eqb-true, leb-true}
use Rattle.std.specs.Prelude.{Ok, Err}
use Rattle.meaning.specs.Bytes.{pick, both, arg, part, little}
use Rattle.meaning.specs.Fields.{exists}
use Rattle.meaning.proofs.Choices.{both_right}
use Rattle.records.specs.Records.{Found, whole, cut, length_at, whole_length, record_at}
use Rattle.records.proofs.Bytes.{length_part}
use Rattle.programmer.specs.Wishes.{field_in, body_of, is_codes, is_field, of_its_size, first_wrong, Checked, good, checked_from, checked_tape, fields_from, wish_of}
use Rattle.programmer.specs.Promises.{span_of, WholeTape, GoodIsWhole}
use Rattle.programmer.specs.declared.wish.TapeFault.TheVariants.{BadRecord, WrongSize}
use Rattle.programmer.proofs.Reading.{short-length, all_fit, all_few}

some-body : (b : List ℕ) → leb 128 (arg b 0) ≡ true → 1 ≤ length b
some-body [] e = absurd (false≢true e)
some-body (x ∷ b) e = omega arith

-- a field's record takes its whole length
spans : (t : List ℕ) (x : Found) → record_at t ≡ x → is_field x ≡ true → (1 ≤ length (body_of x)) × (4 + length (body_of x) ≡ whole_length t) × (whole_length t ≤ length t)
unfolding record_at is_field body_of exists
spans t x e f = go (leb 2 (length_at t)) (leb (whole_length t) (length t)) refl refl x e f
  where
    go : (p q : Bool) → leb 2 (length_at t) ≡ p → leb (whole_length t) (length t) ≡ q → (x : Found)
        → pick (both p q) (whole (little (part t 2 2)) (part t 4 (length_at t - 2))) cut ≡ x → is_field x ≡ true
        → (1 ≤ length (body_of x)) × (4 + length (body_of x) ≡ whole_length t) × (whole_length t ≤ length t)
    go true true a b x e f =
        let body = part t 4 (length_at t - 2) in
        let n : length body ≡ length_at t - 2 = length_part t 4 (length_at t - 2) (omega (arith, leb-true 2 (length_at t) a, leb-true (whole_length t) (length t) b)) in
        let g : both (eqb (little (part t 2 2)) 0x21) (leb 128 (arg body 0)) ≡ true = rw (← e) at f in
        rw (← e) (some-body body (both_right (eqb (little (part t 2 2)) 0x21) (leb 128 (arg body 0)) g), omega (arith, n, leb-true 2 (length_at t) a), leb-true (whole_length t) (length t) b)
    go true false a b x e f = absurd (false≢true (rw (← e) at f))
    go false q a b x e f = absurd (false≢true (rw (← e) at f))

first_good : (w : Checked) (q : Bool) (at : ℕ) → first_wrong w q at ≡ good → (w ≡ good) × (q ≡ true)
unfolding first_wrong
first_good (Ok u) true at e = (refl, refl)
first_good (Ok u) false at e = absurd cc
first_good (Err f) q at e = absurd cc

none_more : (n : ℕ) → fields_from (suc n) [] ≡ []
unfolding fields_from is_field record_at length_at little
none_more n = refl

all_read : (n : ℕ) (w : Checked) (at : ℕ) (t : List ℕ) → checked_from n w at t ≡ good → (w ≡ good) × (span_of (fields_from n t) ≡ length t)
unfolding checked_from fields_from span_of
all_read zero w at [] e = (e, refl)
all_read zero w at (x ∷ t) e = absurd cc
all_read (suc n) w at [] e = (e, ap span_of (none_more n))
all_read (suc n) w at (x ∷ t) e =
    let s : List ℕ = x ∷ t in
    go (is_field (record_at s)) refl (λ v h. all_read n v (at + whole_length s) (drop (whole_length s) s) h) e
  where
    go : (p : Bool) → is_field (record_at (x ∷ t)) ≡ p
        → ((v : Checked) → checked_from n v (at + whole_length (x ∷ t)) (drop (whole_length (x ∷ t)) (x ∷ t)) ≡ good
        → (v ≡ good) × (span_of (fields_from n (drop (whole_length (x ∷ t)) (x ∷ t))) ≡ length (drop (whole_length (x ∷ t)) (x ∷ t))))
        → pick p (checked_from n (first_wrong w (of_its_size (body_of (record_at (x ∷ t)))) at) (at + whole_length (x ∷ t)) (drop (whole_length (x ∷ t)) (x ∷ t))) (Err (BadRecord at)) ≡ good
        → (w ≡ good) × (span_of (pick (both p (of_its_size (body_of (record_at (x ∷ t))))) (field_in (body_of (record_at (x ∷ t))) ∷ fields_from n (drop (whole_length (x ∷ t)) (x ∷ t))) []) ≡ suc (length t))
    go true f ih e =
        let s : List ℕ = x ∷ t in
        let b = body_of (record_at s) in
        let h = ih (first_wrong w (of_its_size b) at) e in
        let g = first_good w (of_its_size b) at h.0 in
        let y = spans s (record_at s) refl f in
        (g.0, rw g.1 (omega (arith, h.1, y.0, y.1, y.2, length-drop (whole_length s) s, length-drop 1 b)))
    go false f ih e = absurd cc

-- the codes' record has eight bytes
head_spans : (t : List ℕ) (x : Found) → record_at t ≡ x → is_codes x ≡ true → 8 ≤ length t
unfolding record_at is_codes
head_spans t x e f = go (leb 2 (length_at t)) (leb (whole_length t) (length t)) refl refl x e f
  where
    go : (p q : Bool) → leb 2 (length_at t) ≡ p → leb (whole_length t) (length t) ≡ q → (x : Found)
        → pick (both p q) (whole (little (part t 2 2)) (part t 4 (length_at t - 2))) cut ≡ x → is_codes x ≡ true → 8 ≤ length t
    go true true a b x e f =
        let body = part t 4 (length_at t - 2) in
        let n : length body ≡ length_at t - 2 = length_part t 4 (length_at t - 2) (omega (arith, leb-true 2 (length_at t) a, leb-true (whole_length t) (length t) b)) in
        let g : both (eqb (little (part t 2 2)) 0x20) (eqb (length body) 4) ≡ true = rw (← e) at f in
        omega (arith, n, leb-true 2 (length_at t) a, leb-true (whole_length t) (length t) b, eqb-true (length body) 4 (both_right (eqb (little (part t 2 2)) 0x20) (eqb (length body) 4) g))
    go true false a b x e f = absurd (false≢true (rw (← e) at f))
    go false q a b x e f = absurd (false≢true (rw (← e) at f))

pub good-is-whole : GoodIsWhole
unfolding checked_tape wish_of
good-is-whole t e = go (is_codes (record_at t)) refl e
  where
    go : (p : Bool) → is_codes (record_at t) ≡ p → pick p (checked_from 256 good 8 (drop 8 t)) (Err (BadRecord 0)) ≡ good → WholeTape t (wish_of t)
    go true f e =
        let h = head_spans t (record_at t) refl f in
        record {
          four = length_part t 4 4 h;
          few = all_few 256 (drop 8 t);
          fit = all_fit 256 (drop 8 t);
          all = omega (arith, h, (all_read 256 good 8 (drop 8 t) e).1, length-drop 8 t);
        }
    go false f e = absurd cc

-- ---- the place of a fault

abbrev pub place_in : Checked → ℕ
place_in (Ok u) = 0
place_in (Err (BadRecord at)) = at
place_in (Err (WrongSize at)) = at

first-place : (c : Checked) (q : Bool) (at : ℕ) → place_in c ≤ at → place_in (first_wrong c q at) ≤ at
unfolding first_wrong
first-place (Ok u) true at h = omega arith
first-place (Ok u) false at h = omega arith
first-place (Err f) q at h = h

dropped_byte : (n : ℕ) (t : List ℕ) → ((i : ℕ) → get_or t i 0 < 256) → (i : ℕ) → get_or (drop n t) i 0 < 256
dropped_byte n t B i = rw (get_or-drop n t i 0) (B (n + i))

-- each record takes at most as many bytes as its length can say, and two more
low-from : (n : ℕ) (c : Checked) (at : ℕ) (t : List ℕ) → ((i : ℕ) → get_or t i 0 < 256) → place_in c ≤ at → place_in (checked_from n c at t) ≤ at + n * 65537
unfolding checked_from length_at
low-from zero c at [] B h = omega arith
low-from zero c at (x ∷ t) B h = omega arith
low-from (suc n) c at [] B h = omega arith
low-from (suc n) c at (x ∷ t) B h =
    go (is_field (record_at (x ∷ t)))
    (low-from n (first_wrong c (of_its_size (body_of (record_at (x ∷ t)))) at) (at + whole_length (x ∷ t)) (drop (whole_length (x ∷ t)) (x ∷ t))
    (dropped_byte (whole_length (x ∷ t)) (x ∷ t) B) (omega (arith, first-place c (of_its_size (body_of (record_at (x ∷ t)))) at h)))
  where
    few : whole_length (x ∷ t) ≤ 65537
    few = omega (arith, short-length (x ∷ t) B)

    go : (p : Bool)
        → place_in (checked_from n (first_wrong c (of_its_size (body_of (record_at (x ∷ t)))) at) (at + whole_length (x ∷ t)) (drop (whole_length (x ∷ t)) (x ∷ t))) ≤ at + whole_length (x ∷ t) + n * 65537
        → place_in (pick p (checked_from n (first_wrong c (of_its_size (body_of (record_at (x ∷ t)))) at) (at + whole_length (x ∷ t)) (drop (whole_length (x ∷ t)) (x ∷ t))) (Err (BadRecord at)))
        ≤ at + suc n * 65537
    go true k = omega (arith, few, k)
    go false k = omega arith

-- so a place has 32 bits
pub low-place : (t : List ℕ) → ((i : ℕ) → get_or t i 0 < 256) → place_in (checked_tape t) < 0x100000000
unfolding checked_tape
low-place t B = go (is_codes (record_at t)) (low-from 256 good 8 (drop 8 t) (dropped_byte 8 t B) (omega arith))
  where
    go : (p : Bool) → place_in (checked_from 256 good 8 (drop 8 t)) ≤ 8 + 256 * 65537 → place_in (pick p (checked_from 256 good 8 (drop 8 t)) (Err (BadRecord 0))) < 0x100000000
    go true k = omega arith
    go false k = omega arith
