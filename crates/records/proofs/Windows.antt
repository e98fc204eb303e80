-- What the reader answers, by the tests on its way. Assumes nothing.
use Prim.Native.Nat.{ℕ, ◌+◌, ◌-◌, ◌≤◌, ◌<◌}
use mathlib.Core.Logic.{◌⊎◌, inl, inr}
use mathlib.Core.Path.{◌≡◌, refl, ◌∙◌}
use mathlib.Core.Bool.{Bool, true, false}
use mathlib.Core.List.{List, [], ◌∷◌}
use native.Mathlib.Omega.{arith}
use lib.ListN.{length, get_or, drop, length-drop}
use lib.Seq.{take_all}
use lib.Dec.{ltb, leb}
use borrow.Author.Tests.{lt-ltb, le-ltb, ltb-false, leb-true, le-leb}
use Rattle.std.specs.Prelude.{Ok, Err}
use Rattle.std.specs.Int.{w16, from_le_bytes}
use Rattle.std.specs.List.{slice_range}
use Rattle.meaning.specs.Bytes.{pick, both, part, little}
use Rattle.records.specs.Records.{length_at, whole_length, whole, cut, record_at}
use Rattle.records.specs.Reader.{Whole, read_at}
use Rattle.records.specs.declared.record.Unread.TheVariants.{More, Bad}
use Rattle.records.proofs.Bytes.{little_two}

module _ (longest at : ℕ) (t : List ℕ) where
  pub few-left : length t < 4 → Err More ≡ read_at longest at t
  unfolding read_at
  few-left h = rw (lt-ltb (length t) 4 h)

  module _ (left : 4 ≤ length t) where
    pub bad-length : (length_at t < 2) ⊎ ((2 ≤ length_at t) × (longest < length_at t)) → Err Bad ≡ read_at longest at t
    unfolding read_at
    bad-length (inl h) = rw (le-ltb (length t) 4 left, lt-ltb (length_at t) 2 h)
    bad-length (inr (h, k)) = rw (le-ltb (length t) 4 left, le-ltb (length_at t) 2 h, lt-ltb longest (length_at t) k)

    module _ (h : 2 ≤ length_at t) (k : length_at t ≤ longest) where
      pub wants_more : length t < whole_length t → Err More ≡ read_at longest at t
      unfolding read_at
      wants_more l = rw (le-ltb (length t) 4 left, le-ltb (length_at t) 2 h, le-ltb longest (length_at t) k, lt-ltb (length t) (whole_length t) l)

      pub all_there : (n kind : ℕ) (body : List ℕ) → n ≡ length_at t → 2 + n ≤ length t → kind ≡ little (part t 2 2) → body ≡ slice_range t 4 (2 + n)
          → Ok (record { kind = kind; start = at + 4; body = body; next = at + (2 + n) }) ≡ read_at longest at t
      unfolding read_at part
      all_there n kind body e l q b =
          let m : 2 + n - 4 ≡ length_at t - 2 = omega (arith, e) in
          let w : body ≡ part t 4 (length_at t - 2) = b ∙ rw m in
          rw (le-ltb (length t) 4 left, le-ltb (length_at t) 2 h, le-ltb longest (length_at t) k, le-ltb (length t) (whole_length t) (omega (arith, e)), q, w, e)

-- the length and the kind, read from their two bytes
pub counted_is : (t : List ℕ) → 4 ≤ length t → from_le_bytes w16 (get_or t 0 0 ∷ get_or t 1 0 ∷ []) ≡ length_at t
unfolding length_at part
counted_is t h = let e = little_two t 0 (omega arith) in omega (arith, e)

pub kind_is : (t : List ℕ) → 4 ≤ length t → from_le_bytes w16 (get_or t 2 0 ∷ get_or t 3 0 ∷ []) ≡ little (part t 2 2)
kind_is t h = let e = little_two t 2 (omega arith) in omega (arith, e)

-- what is left of a window from a place on
pub rest_is : (s t : List ℕ) (at : ℕ) → t ≡ slice_range s at (length s) → t ≡ drop at s
rest_is s t at e = e ∙ take_all (length s - at) (drop at s) (omega (arith, length-drop at s))

-- a whole record that was read stands whole
pub record Read (at : ℕ) (t : List ℕ) (w : Whole) : Type 0 where
  pub kind_is : w.kind ≡ little (part t 2 2)
  pub body_at : w.start ≡ at + 4
  pub body_is : w.body ≡ part t 4 (length_at t - 2)
  pub past : w.next ≡ at + whole_length t
  pub has_kind : 2 ≤ length_at t
  pub inside : whole_length t ≤ length t

pub record_read : (longest at : ℕ) (t : List ℕ) (w : Whole) → read_at longest at t ≡ Ok w → Read at t w
unfolding read_at
record_read longest at t w = go (ltb (length t) 4) (ltb (length_at t) 2) (ltb longest (length_at t)) (ltb (length t) (whole_length t)) refl refl
  where
    never : {A : Type 0} → ◌≡◌ {A = ℕ} 0 1 → A
    never e = absurd (omega arith)

    go : (a b c d : Bool) → ltb (length_at t) 2 ≡ b → ltb (length t) (whole_length t) ≡ d
        → pick a (Err More) (pick b (Err Bad) (pick c (Err Bad) (pick d (Err More)
        (Ok (record { kind = little (part t 2 2); start = at + 4; body = part t 4 (length_at t - 2); next = at + whole_length t }))))) ≡ Ok w → Read at t w
    go true b c d f h e = never (cc)
    go false true c d f h e = never (cc)
    go false false true d f h e = never (cc)
    go false false false true f h e = never (cc)
    go false false false false f h e = rw (← let q : record { kind = little (part t 2 2); start = at + 4; body = part t 4 (length_at t - 2); next = at + whole_length t } ≡ w = cc in q)
        (record { kind_is = refl; body_at = refl; body_is = refl; past = refl; has_kind = ltb-false (length_at t) 2 f; inside = ltb-false (length t) (whole_length t) h })

-- ---- and what that says of the record that stands there

pub record_cut : (t : List ℕ) → (2 ≤ length_at t → length t < whole_length t) → record_at t ≡ cut
unfolding record_at
record_cut t h = go (leb 2 (length_at t)) (leb (whole_length t) (length t)) refl refl
  where
    go : (a b : Bool) → leb 2 (length_at t) ≡ a → leb (whole_length t) (length t) ≡ b
        → pick (both a b) (whole (little (part t 2 2)) (part t 4 (length_at t - 2))) cut ≡ cut
    go true true e f = absurd (omega (arith, h (leb-true 2 (length_at t) e), leb-true (whole_length t) (length t) f))
    go true false e f = refl
    go false b e f = refl

pub record_whole : (t : List ℕ) → 2 ≤ length_at t → whole_length t ≤ length t → record_at t ≡ whole (little (part t 2 2)) (part t 4 (length_at t - 2))
unfolding record_at
record_whole t h l = rw (le-leb 2 (length_at t) h, le-leb (whole_length t) (length t) l)
