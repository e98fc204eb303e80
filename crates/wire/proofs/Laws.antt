-- Laws of the checksum's loop, of lists compared, of bytes put into a buffer, and of a frame that is sealed round its data. Assumes nothing.
use mathlib.Core.Path.{◌≡◌, refl, sym, ap, ◌∙◌}
use mathlib.Core.Bool.{Bool, true, false, ◌&&◌}
use mathlib.Core.List.{List, [], ◌∷◌, ◌++◌, append-nil}
use Prim.Native.Nat.{ℕ, suc, ◌+◌, ◌-◌, ◌<◌, ◌≤◌}
use native.Mathlib.Numerals.{add-one}
use native.Mathlib.Nat.{zero-add}
use native.Mathlib.Omega.{arith}
use lib.ListN.{length, take, drop, get_or, set, length-append, length-take, length-drop, drop_of_length-le}
use lib.Seq.{drop-cons, take-suc, set_at, set_split, append_snoc, length-take-le, take-length, drop-length, drop-drop}
use lib.Bits.{bit_xor, xor_self}
use lib.Dec.{eqb}
use lib.Pointwise.{pointwise}
use borrow.Author.Tests.{le-leb, lt-leb, eq-eqb, ne_eqb, eqb-true, eqb-false}
use borrow.Rule.Slice.PartMut.{put_mid, mid_of}
use Rattle.meaning.specs.Bytes.{both, arg, xor_from, xor_all, part, put, same}
use Rattle.meaning.specs.Commands.{counted, length_fits}
use Rattle.meaning.specs.Frames.{sealed}
use Rattle.meaning.proofs.Choices.{both_false}
use Rattle.meaning.proofs.Puts.{drop-put-low, put_front, part-put}
use Rattle.meaning.proofs.Wire.{xor_snoc, length-sealed}
use Rattle.meaning.proofs.Bytewise.{xor_cancel}

-- one byte more is passed
pub xor_more : (s : List ℕ) (i x : ℕ) → i < length s → xor_from (bit_xor x (get_or s i 0)) (drop (i + 1) s) ≡ xor_from x (drop i s)
unfolding xor_from
xor_more s i x h = rw (add-one, drop-cons s i 0)

-- a list with its checksum has checksum 0 (meaning's `xor_sealed`), and only then
pub xor_opens : (s : List ℕ) (z : ℕ) → xor_all (s ++ (z ∷ [])) ≡ 0 → z ≡ xor_all s
unfolding xor_all
xor_opens s z e = sym (xor_cancel (xor_from 0 s) z z (sym (xor_snoc 0 s z) ∙ e ∙ sym (xor_self z)))

-- lists of different lengths differ
pub same-long : (a b : List ℕ) → (length a ≡ length b → ⊥) → same a b ≡ false
unfolding same
same-long [] [] n = absurd (n refl)
same-long [] (y ∷ ys) n = refl
same-long (x ∷ xs) [] n = refl
same-long (x ∷ xs) (y ∷ ys) n = rw (same-long xs ys (λ e. n (ap suc e))) (both_false (eqb x y))

-- one byte more is compared
pub same_more : (a b : List ℕ) (i : ℕ) → i < length a → i < length b
    → same (drop i a) (drop i b) ≡ both (eqb (get_or a i 0) (get_or b i 0)) (same (drop (i + 1) a) (drop (i + 1) b))
unfolding same
same_more a b i h k = rw (add-one, drop-cons a i 0 h, drop-cons b i 0 k)

-- no byte is left
pub same_end : (a b : List ℕ) (i : ℕ) → length a ≤ i → length b ≤ i → same (drop i a) (drop i b) ≡ true
unfolding same
same_end a b i h k = rw (drop_of_length-le a h, drop_of_length-le b k)

-- one byte more is copied
pub fill_more : (s d : List ℕ) (i : ℕ) → i < length s → i < length d
    → set (take i s ++ drop i d) i (get_or s i 0) ≡ take (i + 1) s ++ drop (i + 1) d
fill_more s d i h k =
    rw (add-one, drop-cons d i 0, take-suc s i 0)
    (set_at (take i s) (get_or d i 0) (drop (suc i) d) (get_or s i 0) i (length-take-le i s (omega arith)) ∙ sym (append_snoc (take i s) (get_or s i 0) (drop (suc i) d)))

and_both : (a b : Bool) → (a && b) ≡ both a b
and_both true b = refl
and_both false b = refl

-- lists are compared byte by byte
pub same_bytes : (a b : List ℕ) → pointwise eqb a b ≡ same a b
unfolding same
same_bytes [] [] = refl
same_bytes [] (y ∷ ys) = refl
same_bytes (x ∷ xs) [] = refl
same_bytes (x ∷ xs) (y ∷ ys) = rw (same_bytes xs ys) (and_both (eqb x y) (same xs ys))

-- the tail of a buffer from place a on, lent, filled at its front and come back
pub tail_filled : (buffer d : List ℕ) (a : ℕ) → a + length d ≤ length buffer
    → put_mid a (length buffer - a) buffer (put (mid_of a (length buffer - a) buffer) 0 d) ≡ put buffer a d
unfolding put
tail_filled buffer d a h =
    let k : length buffer - a ≡ length (drop a buffer) = sym (length-drop a buffer) in
    rw (k, take-length (drop a buffer), drop-length (drop a buffer), zero-add, append-nil, drop-drop (length d) a buffer)

-- the data of a sealed frame, where it stood already
pub sealed_round : (a c n : ℕ) (buffer : List ℕ) → n + 3 ≤ length buffer
    → set (set (set buffer 0 a) 1 c) (n + 2) (xor_from (bit_xor a c) (take (n + 2 - 2) (drop 2 buffer))) ≡ put buffer 0 (sealed (a ∷ c ∷ part buffer 2 n))
unfolding sealed part xor_all xor_from
sealed_round a c n [] h = absurd (omega arith)
sealed_round a c n (x ∷ []) h = absurd (omega arith)
sealed_round a c n (x ∷ y ∷ r) h =
    let z : ℕ = xor_from (bit_xor a c) (take n r) in
    let q : List ℕ = a ∷ c ∷ (take n r ++ (z ∷ [])) in
    let k : length q ≡ suc (suc (suc n)) = simp (length-append, length-take) (omega arith) in
    let s : n + 2 ≡ suc (suc n) = omega arith in
    let t : n + 2 - 2 ≡ n = omega arith in
    rw (t, s, put_front (x ∷ y ∷ r) q, k, set_split r n z (omega arith)) (sym (append_snoc (a ∷ c ∷ take n r) z (drop (suc n) r)))

-- data put from place 2 on and then sealed is the whole frame put at the front
pub seal_data : (a c n : ℕ) (d buffer : List ℕ) → length d ≡ n → n + 3 ≤ length buffer
    → put (put buffer 2 d) 0 (sealed (a ∷ c ∷ part (put buffer 2 d) 2 n)) ≡ put buffer 0 (sealed (a ∷ c ∷ d))
seal_data a c n d buffer e h =
    let q : List ℕ = sealed (a ∷ c ∷ d) in
    let k : 2 + length d ≤ length q = omega (arith, length-sealed (a ∷ c ∷ d)) in
    rw (part-put buffer 2 d n (omega arith) e, put_front (put buffer 2 d) q, put_front buffer q, drop-put-low buffer 2 d (omega arith) (length q) k)

-- a count past its base: too few, too many, and compared by what is past
pub too_few : (b : ℕ) (d x : List ℕ) → length x ≤ b → length_fits (counted b) d x ≡ false
unfolding length_fits
too_few b d x h = simp (lt-leb (b + 1) (length x) (omega arith))

pub too_many : (b : ℕ) (d x : List ℕ) → b < length x → 128 < length x - b → length_fits (counted b) d x ≡ false
unfolding length_fits
too_many b d x h k = simp (le-leb (b + 1) (length x) (omega arith), lt-leb (length x) (b + 128) (omega arith))

shifted : (b n k : ℕ) → b < n → eqb (n - b) k ≡ eqb n (b + k)
shifted b n k h = go (eqb (n - b) k) refl
  where
    go : (t : Bool) → eqb (n - b) k ≡ t → t ≡ eqb n (b + k)
    go true e = sym (eq-eqb n (b + k) (omega (arith, eqb-true (n - b) k e)))
    go false e = sym (ne_eqb n (b + k) (λ q. eqb-false (n - b) k e (omega arith)))

pub count_past : (b : ℕ) (d x : List ℕ) → b < length x → length x - b ≤ 128 → eqb (length x - b) (arg d 2) ≡ length_fits (counted b) d x
unfolding length_fits
count_past b d x h k = simp (le-leb (b + 1) (length x) (omega arith), le-leb (length x) (b + 128) (omega arith)) (shifted b (length x) (arg d 2) h)
