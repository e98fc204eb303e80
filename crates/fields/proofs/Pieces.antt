-- Bytes put into a list one by one, and parts of a list lent and come back. Assumes nothing.
use Prim.Native.Nat.{ℕ, zero, suc, ◌+◌, ◌-◌, ◌≤◌}
use mathlib.Core.Path.{◌≡◌, ap, ◌∙◌}
use mathlib.Core.List.{List, [], ◌∷◌, append_assoc}
use native.Mathlib.Omega.{arith}
use lib.ListN.{length, take, drop, length-take, length-drop, take-append-drop}
use lib.Seq.{take-nil, take-take, take-add, drop-drop, drop-append-le}
use borrow.Rule.Slice.PartMut.{put_mid, mid_of, Post-is}
use Rattle.meaning.specs.Bytes.{put}

take-drop : (l : List ℕ) (n o k : ℕ) → o + k ≤ n → take k (drop o (take n l)) ≡ take k (drop o l)
take-drop l n zero k h = take-take k n l (omega arith)
take-drop [] n (suc o) k h = ap (λ (r : List ℕ). take k (drop (suc o) r)) (take-nil n)
take-drop (x ∷ l) zero (suc o) k h = absurd (omega arith)
take-drop (x ∷ l) (suc n) (suc o) k h = take-drop l n o k (omega arith)

-- a part of a part
pub part-part : (m : List ℕ) (a n o k : ℕ) → o + k ≤ n → take k (drop o (take n (drop a m))) ≡ take k (drop (a + o) m)
part-part m a n o k h = take-drop (drop a m) n o k h ∙ ap (λ (l : List ℕ). take k l) (drop-drop o a m)

-- a part that is lent, gets bytes and comes back
pub put_in_part : (m : List ℕ) (a n o : ℕ) (bs : List ℕ) → o + length bs ≤ n → a + n ≤ length m → put_mid a n m (put (mid_of a n m) o bs) ≡ put m (a + o) bs
unfolding put
put_in_part m a n o bs h k =
    let r : List ℕ = drop a m in
    let l : o + length bs ≤ length (take n r) = simp (length-take, length-drop) (omega arith) in
    let e : a + o + length bs ≡ a + (o + length bs) = omega arith in
    rw (take-take o n r (omega arith), append_assoc (take o r), append_assoc bs, ← drop-append-le (o + length bs) (take n r) (drop n r) l, take-append-drop n r, take-add a o m, e, ← drop-drop (o + length bs) a m)
    (simp append_assoc)

-- a part that is lent and comes back as other bytes
pub mid_put : (m : List ℕ) (a e : ℕ) (ys : List ℕ) → a ≤ e → length ys ≡ e - a → put_mid a (e - a) m ys ≡ put m a ys
unfolding put
mid_put m a e ys h k =
    let i : a + length ys ≡ e = omega arith in
    rw (Post-is a e m h, i)
