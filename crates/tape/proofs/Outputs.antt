-- Bytes put into an output one after another. Assumes nothing.
use Prim.Native.Nat.{ℕ, ◌+◌, ◌-◌, ◌*◌, ◌/◌, ◌%◌, ◌≤◌, ◌<◌}
use mathlib.Core.Path.{◌≡◌, refl, sym, ap, ◌∙◌}
use mathlib.Core.List.{List, [], ◌∷◌, ◌++◌}
use native.Mathlib.Numerals.{add-one}
use native.Mathlib.Nat.{add-zero}
use native.Mathlib.Omega.{arith}
use lib.ListN.{length, get_or, drop, set, length-drop, length-set, take-append-drop, drop_of_length-le}
use lib.Seq.{drop-cons, drop-drop}
use borrow.Rule.Slice.PartMut.{put_mid}
use Rattle.meaning.specs.Bytes.{put}
use Rattle.meaning.proofs.Puts.{length-put, put-put, put_one}
use Rattle.tape.specs.Text.{digit_of, hex_of}

-- nothing put
pub put-nil : (out : List ℕ) (at : ℕ) → put out at [] ≡ out
unfolding put
put-nil out at = rw (add-zero at) (take-append-drop at out)

-- a part of the output that was copied over
pub put_copied : (out s part : List ℕ) (at n : ℕ) → part ≡ s → n ≡ length s → put_mid at n out part ≡ put out at s
unfolding put
put_copied out s part at n e k = rw (e, k, drop-drop (length s) at out)

-- a byte in front of the rest
pub put_next : (out : List ℕ) (at b : ℕ) (bs : List ℕ) → at + 1 + length bs ≤ length out → put (set out at b) (at + 1) bs ≡ put out at (b ∷ bs)
put_next out at b bs h = rw (put_one out at b (omega arith)) (put-put out at (b ∷ []) bs (at + 1) refl (omega arith))

-- a byte behind the rest
pub put_last : (out : List ℕ) (at z : ℕ) (bs : List ℕ) → at + length bs < length out → set (put out at bs) (at + length bs) z ≡ put out at (bs ++ (z ∷ []))
put_last out at z bs h =
    put_one (put out at bs) (at + length bs) z (rw (length-put out at bs (omega arith)) h) ∙ put-put out at bs (z ∷ []) (at + length bs) refl (omega arith)

-- one more byte as a space and two digits
pub hex_next : (out : List ℕ) (at b : ℕ) (bs : List ℕ) → at + 3 + length (hex_of bs) ≤ length out
    → put (set (set (set out at 32) (at + 1) (digit_of (b / 16))) (at + 2) (digit_of (b % 16))) (at + 3) (hex_of bs) ≡ put out at (hex_of (b ∷ bs))
unfolding hex_of
hex_next out at b bs h =
    let x : ℕ = digit_of (b / 16) in
    let y : ℕ = digit_of (b % 16) in
    let e₂ : at + 2 ≡ at + 1 + 1 = omega arith in
    let e₃ : at + 3 ≡ at + 1 + 1 + 1 = omega arith in
    rw (e₃, e₂)
    (put_next (set (set out at 32) (at + 1) x) (at + 1 + 1) y (hex_of bs) (simp length-set (omega arith))
    ∙ put_next (set out at 32) (at + 1) x (y ∷ hex_of bs) (simp length-set (omega arith))
    ∙ put_next out at 32 (x ∷ y ∷ hex_of bs) (omega arith))

pub length_hex : (s : List ℕ) → length (hex_of s) ≡ 3 * length s
unfolding hex_of
length_hex [] = refl
length_hex (b ∷ s) = let h = length_hex s in omega arith

-- what is left of a text, from the place reached, comes to the whole: one byte more, and none left
pub hex_more : (s out : List ℕ) (i to : ℕ) → i < length s → to + 3 * (length s - i) ≤ length out
    → put (set (set (set out to 32) (to + 1) (digit_of (get_or s i 0 / 16))) (to + 2) (digit_of (get_or s i 0 % 16))) (to + 3) (hex_of (drop (i + 1) s))
    ≡ put out to (hex_of (drop i s))
hex_more s out i to h k =
    let d : drop i s ≡ get_or s i 0 ∷ drop (i + 1) s = rw (add-one i) (drop-cons s i 0 h) in
    let n : length (hex_of (drop (i + 1) s)) ≡ 3 * (length s - (i + 1)) = length_hex (drop (i + 1) s) ∙ ap (λ (j : ℕ). 3 * j) (length-drop (i + 1) s) in
    hex_next out to (get_or s i 0) (drop (i + 1) s) (omega arith) ∙ ap (λ (l : List ℕ). put out to (hex_of l)) (sym d)

pub none_left : (s out : List ℕ) (i to : ℕ) (f : List ℕ → List ℕ) {whole : List ℕ} → f [] ≡ [] → length s ≤ i → put out to (f (drop i s)) ≡ whole → out ≡ whole
none_left s out i to f z h e =
    let d : f (drop i s) ≡ [] = ap f (drop_of_length-le s {i = i} h) ∙ z in
    sym (put-nil out to) ∙ ap (λ (l : List ℕ). put out to l) (sym d) ∙ e
