-- Texts written one behind another. Assumes nothing.
use Prim.Native.Nat.{ℕ, ◌+◌, ◌≤◌, ◌<◌}
use mathlib.Core.Path.{◌≡◌, refl, ap, ◌∙◌}
use mathlib.Core.List.{List, [], ◌∷◌, ◌++◌, append_assoc}
use native.Mathlib.Omega.{arith}
use lib.ListN.{length, set, length-append}
use Rattle.meaning.specs.Bytes.{put}
use Rattle.meaning.proofs.Puts.{length-put, put-put}
use Rattle.tape.specs.Text.{decimal_of, hex_of, reply_line, bad_line}
use Rattle.tape.specs.Reader.{Printed}
use Rattle.tape.proofs.Outputs.{put_last}

pub same_size : {text out : List ℕ} {at r : ℕ} {out' : List ℕ} → Printed text out at r out' → length out' ≡ length out
same_size {text} {out} {at} p = ap length p.bytes ∙ length-put out at text (omega (arith, p.next, p.within))

pub joined : {x y out out' out'' : List ℕ} {at r q : ℕ} → Printed x out at r out' → Printed y out' r q out'' → Printed (x ++ y) out at q out''
joined {x} {y} {out} {out'} {out''} {at} {r} {q} p k =
    let l = same_size p in
    let n : at + length x + length y ≤ length out = omega (arith, p.next, k.next, k.within) in
    let b : out'' ≡ put (put out at x) (at + length x) y = k.bytes ∙ rw (p.bytes, p.next) in
    record { next = rw (length-append x y) (omega (arith, p.next, k.next)); bytes = b ∙ put-put out at x y (at + length x) refl (omega (arith, n)); within = omega (arith, k.within) }

pub closed : {x out out' : List ℕ} {at r : ℕ} (z : ℕ) → Printed x out at r out' → r < length out → Printed (x ++ (z ∷ [])) out at (r + 1) (set out' r z)
closed {x} {out} {out'} {at} {r} z p h =
    let n : at + length x < length out = omega (arith, p.next) in
    let b : set out' r z ≡ set (put out at x) (at + length x) z = rw (p.bytes, p.next) in
    record { next = rw (length-append x (z ∷ [])) (omega (arith, p.next)); bytes = b ∙ put_last out at z x n; within = omega arith }

-- the line of a reply, and `bad N`
pub line-printed : (tick : ℕ) (reply : List ℕ) {out out' out'' : List ℕ} {at r q : ℕ} → Printed (decimal_of tick) out at r out' → Printed (hex_of reply) out' r q out'' → q < length out
    → Printed (reply_line tick reply) out at (q + 1) (set out'' q 10)
unfolding reply_line
line-printed tick reply p k h = rw (← append_assoc (decimal_of tick) (hex_of reply) (10 ∷ [])) (closed 10 (joined p k) h)

pub bad-printed : (place : ℕ) {out out' out'' : List ℕ} {at r q : ℕ} → Printed (98 ∷ 97 ∷ 100 ∷ 32 ∷ []) out at r out' → Printed (decimal_of place) out' r q out'' → q < length out
    → Printed (bad_line place) out at (q + 1) (set out'' q 10)
unfolding bad_line
bad-printed place p k h = closed 10 (joined p k) h

pub printed_as : {x y out out' : List ℕ} {at r : ℕ} → x ≡ y → Printed x out at r out' → Printed y out at r out'
printed_as e p = rw e at p
