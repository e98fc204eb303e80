-- Gaps of a tick count that wraps around, and when a pause is over (01, "a gap is taken modulo 2^32"). Assumes nothing.
use Prim.Native.Nat.{ℕ, ◌+◌, ◌-◌, ◌%◌, ◌^◌, ◌<◌}
use mathlib.Core.Path.{◌≡◌, refl}
use mathlib.Core.Bool.{Bool, true, false}
use native.Mathlib.Omega.{arith}
use native.Mathlib.Decide.{dec_lt}
use native.Mathlib.Nat.{mod_self, mod-add-mod}
use lib.Dec.{eqb, leb}
use borrow.Author.Tests.{le-leb, lt-leb, eq-eqb, ne_eqb}
use Rattle.meaning.specs.Bytes.{pick, both}
use Rattle.meaning.specs.State.{Plate, State}
use Rattle.meaning.specs.Characters.{gap, full_pause, Remaining, no_frame_open, ticks_left, remaining, ran_out, over}
use Rattle.meaning.specs.Sleeping.{later}

pub gap_self : (now : ℕ) → gap now now ≡ 0
unfolding gap
gap_self now =
    let e : now + 2 ^ 32 - now ≡ 2 ^ 32 = omega arith in
    rw e (mod_self (2 ^ 32))

-- k ticks later the gap is k more, from every stamp and over the wrap
pub gap-later : (last now k : ℕ) → last < 2 ^ 32 → gap last (later now k) ≡ (gap last now + k) % 2 ^ 32
unfolding gap later
gap-later last now k low =
    let w : ℕ = 2 ^ 32 - last in
    let e : (now + k) % 2 ^ 32 + 2 ^ 32 - last ≡ (now + k) % 2 ^ 32 + w = omega arith in
    let f : now + 2 ^ 32 - last ≡ now + w = omega arith in
    let g : now + k + w ≡ now + w + k = omega arith in
    rw (e, f, mod-add-mod (now + k) (2 ^ 32) w, mod-add-mod (now + w) (2 ^ 32) k, g)

-- over is exactly 0 ticks
pub over-told : (p : Plate) (s : State) (now : ℕ) {r : Remaining} → r ≡ remaining p s now → over p s now ≡ ran_out r
unfolding over
over-told p s now e = rw e

-- a pause that is not longer than the gap has no tick left
none_left : (a b : ℕ) → eqb (a - b) 0 ≡ leb a b
none_left a b = go (dec_lt b a)
  where
    go : Dec (b < a) → eqb (a - b) 0 ≡ leb a b
    go (yes h) = rw (lt-leb a b h) (ne_eqb (a - b) 0 (λ e. omega (arith, e)))
    go (no h) = rw (le-leb a b (omega arith)) (eq-eqb (a - b) 0 (omega arith))

-- 01, "at least pause × ticks-per-bit after its last character": equality closes
pub over-is : (p : Plate) (s : State) (now : ℕ) → over p s now ≡ both s.line.begun (leb (full_pause p) (gap s.line.last now))
unfolding over remaining
over-is p s now = go s.line.begun
  where
    go : (b : Bool) → ran_out (pick b (ticks_left (full_pause p - gap s.line.last now)) no_frame_open) ≡ both b (leb (full_pause p) (gap s.line.last now))
    go true = none_left (full_pause p) (gap s.line.last now)
    go false = refl
