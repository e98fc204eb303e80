-- Four bytes as a number, low byte first (01, "Numbers little-endian"). Assumes nothing.
use Prim.Native.Nat.{ℕ, ◌+◌, ◌*◌}
use native.Mathlib.Omega.{arith}
use native.Mathlib.Nat.{add-zero}
use mathlib.Core.Path.{◌≡◌, refl, ap, ◌∙◌}
use mathlib.Core.List.{List, [], ◌∷◌}
use lib.ListN.{take, drop}
use lib.Seq.{get_or-drop}
use Rattle.std.specs.Int.{w32, from_le_bytes}
use Rattle.meaning.specs.Bytes.{arg, part, little}

pub low_first : (a b c d : ℕ) → little (a ∷ b ∷ c ∷ d ∷ []) ≡ a + 0x100 * b + 0x10000 * c + 0x1000000 * d
unfolding little
low_first a b c d = omega arith

pub four_bytes : (a b c d : ℕ) → from_le_bytes w32 (a ∷ b ∷ c ∷ d ∷ []) ≡ little (a ∷ b ∷ c ∷ d ∷ [])
four_bytes a b c d = omega (arith, low_first a b c d)

-- past the end of a list there are only zeros
first-four : (s : List ℕ) → little (take 4 s) ≡ little (arg s 0 ∷ arg s 1 ∷ arg s 2 ∷ arg s 3 ∷ [])
unfolding little
first-four [] = refl
first-four (a ∷ []) = refl
first-four (a ∷ b ∷ []) = refl
first-four (a ∷ b ∷ c ∷ []) = refl
first-four (a ∷ b ∷ c ∷ d ∷ s) = refl

pub little-at : (s : List ℕ) (at : ℕ) → little (part s at 4) ≡ little (arg s at ∷ arg s (at + 1) ∷ arg s (at + 2) ∷ arg s (at + 3) ∷ [])
unfolding part
little-at s at =
    let z : arg (drop at s) 0 ≡ arg s at = get_or-drop at s 0 0 ∙ ap (arg s) (add-zero at) in
    first-four (drop at s) ∙ rw (z, get_or-drop at s 1 0, get_or-drop at s 2 0, get_or-drop at s 3 0)
