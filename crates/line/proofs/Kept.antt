-- The kept bytes: one more character of an open frame, as numbers and as the lent places. Assumes nothing.
use Rattle.std.proofs.Common.{◌≡◌, ℕ, suc, ◌+◌, ◌<◌, ◌≤◌, Bool, true, false, ◌||◌, ltb, leb, List, [], ◌∷◌, ◌++◌, length, take, set, refl}
use Rattle.std.proofs.Common.{append_assoc, append-nil, zero-add, add-one, arith, length-append, drop_of_length-le, length-take-le, take_all, take-suc-set, le-ltb, lt-ltb, le-leb}
use borrow.Author.Tests.{lt-leb}
use lib.Bits.{bit_xor}
use lib.Seq.{set_split}
use Rattle.meaning.specs.Bytes.{pick, put, either}
use Rattle.meaning.specs.State.{none}
use Rattle.meaning.specs.Characters.{more}
use Rattle.line.specs.declared.characters.OpenFrame.{OpenFrame}
use Rattle.line.specs.Line.{line_of, no_frame, Fits, Starts, Extends}
use Rattle.meaning.proofs.Choices.{either_true, either-false}

or_either : (a b : Bool) → (a || b) ≡ either a b
or_either true b = refl
or_either false b = refl

module _ (kept : List ℕ) (n v : ℕ) (h : n < length kept) where
  one_more : take (n + 1) (set kept n v) ≡ take n kept ++ (v ∷ [])
  one_more = rw (add-one, take-suc-set)

  put_one_more : put kept 0 (take n kept ++ (v ∷ [])) ≡ set kept n v
  unfolding put
  put_one_more =
      let k : length (take n kept ++ (v ∷ [])) ≡ suc n = simp (length-append, length-take-le n kept (omega arith)) (omega arith) in
      rw (k, append_assoc, set_split kept n v, zero-add)

put_all : (kept : List ℕ) (n : ℕ) → length kept ≤ n → put kept 0 (take n kept) ≡ kept
unfolding put
put_all kept n h = rw (take_all, zero-add, drop_of_length-le kept {i = length kept} (omega arith)) (append-nil kept)

module _ (f : OpenFrame) (kept : List ℕ) (tick v : ℕ) (bad : Bool) (fits : Fits f kept) where
  counted : length (take f.len kept) ≡ f.len
  counted = length-take-le f.len kept (omega (arith, fits.few, fits.all))

  -- a character that has room is kept behind the others
  pub has_room : f.len < 135
      → Extends (more (line_of f kept) tick v bad) kept
      (record { begun = true; last = tick; len = f.len + 1; sum = bit_xor f.sum v; longer = f.longer; parity = f.parity || bad }) (set kept f.len v)
  unfolding more
  has_room h =
      let t : ltb (length (take f.len kept)) 135 ≡ true = rw counted (lt-ltb f.len 135 h) in
      let u : leb 135 (length (take f.len kept)) ≡ false = rw counted (lt-leb 135 f.len h) in
      let low : f.len < length kept = omega (arith, fits.all) in
      record {
        line = rw (t, u, either-false, or_either, one_more kept f.len v low);
        bytes = rw (t, put_one_more kept f.len v low);
        few = omega arith;
      }

  -- where there is none the frame is longer, and what is kept stays
  pub has_none : 135 ≤ f.len
      → Extends (more (line_of f kept) tick v bad) kept
      (record { begun = true; last = tick; len = f.len; sum = bit_xor f.sum v; longer = true; parity = f.parity || bad }) kept
  unfolding more
  has_none h =
      let t : ltb (length (take f.len kept)) 135 ≡ false = rw counted (le-ltb f.len 135 h) in
      let u : leb 135 (length (take f.len kept)) ≡ true = rw counted (le-leb 135 f.len h) in
      record {
        line = rw (t, u, either_true, or_either);
        bytes = rw (t, put_all kept f.len (omega (arith, fits.all)));
        few = fits.few;
      }

-- with no frame open the next character starts from an empty one
pub starts_anew : (f : OpenFrame) {r : OpenFrame} → f.begun ≡ false → r ≡ no_frame → Starts f r
unfolding none
starts_anew f e q = record { line = λ kept. rw (q, e); few = λ h. rw q (omega arith) }

pub goes_on : (f : OpenFrame) (kept : List ℕ) (tick v : ℕ) (bad : Bool) {g r : OpenFrame} {after : List ℕ} → Starts f g
    → Extends (more (line_of g kept) tick v bad) kept r after → Extends (more (pick f.begun (line_of f kept) none) tick v bad) kept r after
goes_on f kept tick v bad s h = rw (s.line kept) at h

pub still-fits : (f : OpenFrame) (kept : List ℕ) {g : OpenFrame} → Starts f g → Fits f kept → Fits g kept
still-fits f kept s h = record { few = s.few h.few; all = h.all }
