-- Little-endian numbers and single bytes of a part of the tape. Assumes nothing.
use Prim.Native.Nat.{ℕ, suc, ◌+◌, ◌*◌, ◌≤◌, ◌<◌}
use mathlib.Core.Path.{◌≡◌, ◌∙◌}
use mathlib.Core.List.{List, ◌∷◌}
use native.Mathlib.Numerals.{add-one}
use native.Mathlib.Omega.{arith}
use lib.ListN.{length, get_or, take, drop, length-take, length-drop}
use lib.Seq.{drop-cons, drop-drop, get_or-take, get_or-drop, take-take}
use Rattle.meaning.specs.Bytes.{part, arg, little}

-- the first byte of a part, and the part behind it
pub part-cons : (s : List ℕ) (at n : ℕ) → at < length s → part s at (suc n) ≡ get_or s at 0 ∷ part s (at + 1) n
unfolding part
part-cons s at n h = rw (add-one at, drop-cons s at 0)

pub length_part : (s : List ℕ) (at n : ℕ) → at + n ≤ length s → length (part s at n) ≡ n
unfolding part
length_part s at n h = simp (length-take, length-drop) (omega arith)

pub part-byte : (s : List ℕ) (at n i : ℕ) → i < n → arg (part s at n) i ≡ get_or s (at + i) 0
unfolding part
part-byte s at n i h = get_or-take n (drop at s) i 0 h ∙ get_or-drop at s i 0

pub part-front : (s : List ℕ) (at n k : ℕ) → k ≤ n → take k (part s at n) ≡ part s at k
unfolding part
part-front s at n k h = take-take k n (drop at s) h

pub part-drop : (s : List ℕ) (at i n : ℕ) → part (drop at s) i n ≡ part s (at + i) n
unfolding part
part-drop s at i n = rw (drop-drop i at s)

pub little_two : (s : List ℕ) (at : ℕ) → at + 2 ≤ length s → little (part s at 2) ≡ get_or s at 0 + 256 * get_or s (at + 1) 0
unfolding little part
little_two s at h = rw (part-cons s at 1 (omega arith), part-cons s (at + 1) 0 (omega arith)) (omega arith)
