-- The four flags tested as one word. Assumes nothing.
use Prim.Native.Nat.{ℕ, ◌+◌, ◌*◌, ◌/◌, ◌%◌, ◌<◌, ◌≤◌}
use native.Mathlib.Omega.{arith}
use native.Mathlib.Nat.{mod-eq_of_lt}
use mathlib.Core.Path.{◌≡◌, refl, sym, ap, ◌∙◌}
use mathlib.Core.Bool.{Bool, true, false}
use mathlib.Core.List.{List, [], ◌∷◌}
use borrow.Author.Tests.{leb-true, le-leb, eqb-true, eqb-false}
use lib.Dec.{eqb, leb, lit<}
use lib.Bits.{bit_and, and_block, and_high}
use Rattle.meaning.specs.Bytes.{arg, part, both, little}
use Rattle.wire.proofs.Numbers.{little-at}
use Rattle.meaning.proofs.Choices.{both_left, both_right}
use Rattle.image.specs.Image.{flags_ok}

-- the bits of a byte but for the lowest
abbrev upper : ℕ → ℕ
upper x = x / 2 % 128 * 2

upper_is : (x : ℕ) → bit_and x 0xFE ≡ upper x
upper_is x = and_high x 7 1

low_bit : (x : ℕ) → x < 256 → upper x ≡ 0 → x ≤ 1
low_bit x h e =
    let k : x / 2 % 128 ≡ x / 2 = mod-eq_of_lt (omega arith) in
    let z : x / 2 * 2 ≡ 0 = ap (λ (y : ℕ). y * 2) (sym k) ∙ e in
    omega arith

pub record Blank (w x y z : ℕ) : Type 0 where
  pub one : w ≡ 0
  pub two : x ≡ 0
  pub three : y ≡ 0
  pub four : z ≡ 0

blank : (w x y z : ℕ) → ((z * 256 + y) * 256 + x) * 256 + w ≡ 0 → Blank w x y z
blank w x y z e = record { one = omega arith; two = omega arith; three = omega arith; four = omega arith }

module _ (a b c d : ℕ) (ha : a < 256) (hb : b < 256) (hc : c < 256) (hd : d < 256) where
  nested : little (a ∷ b ∷ c ∷ d ∷ []) ≡ ((d * 256 + c) * 256 + b) * 256 + a
  unfolding little
  nested = omega arith

  word : bit_and (little (a ∷ b ∷ c ∷ d ∷ [])) 0xFEFEFEFE ≡ ((upper d * 256 + upper c) * 256 + upper b) * 256 + upper a
  word =
      let s : bit_and (d * 256 + c) 0xFEFE ≡ upper d * 256 + upper c = and_block 8 d 0xFE c 0xFE hc (lit< tt) ∙ rw (upper_is d, upper_is c) in
      let t : bit_and ((d * 256 + c) * 256 + b) 0xFEFEFE ≡ (upper d * 256 + upper c) * 256 + upper b =
      and_block 8 (d * 256 + c) 0xFEFE b 0xFE hb (lit< tt) ∙ rw (s, upper_is b) in
      ap (λ (x : ℕ). bit_and x 0xFEFEFEFE) nested ∙ and_block 8 ((d * 256 + c) * 256 + b) 0xFEFEFE a 0xFE ha (lit< tt) ∙ rw (t, upper_is a)

-- the flags of a core, at 20 to 23
module _ (core : List ℕ) (small : (i : ℕ) → arg core i < 256) where
  abbrev a : ℕ
  a = arg core 20

  abbrev b : ℕ
  b = arg core 21

  abbrev c : ℕ
  c = arg core 22

  abbrev d : ℕ
  d = arg core 23

  tested : bit_and (little (part core 20 4)) 0xFEFEFEFE ≡ ((upper d * 256 + upper c) * 256 + upper b) * 256 + upper a
  tested = ap (λ (x : ℕ). bit_and x 0xFEFEFEFE) (little-at core 20) ∙ word a b c d (small 20) (small 21) (small 22) (small 23)

  pub flags_fine : bit_and (little (part core 20 4)) 0xFEFEFEFE ≡ 0 → flags_ok core ≡ true
  unfolding flags_ok
  flags_fine e =
      let z : Blank (upper a) (upper b) (upper c) (upper d) = blank (upper a) (upper b) (upper c) (upper d) (sym tested ∙ e) in
      let p : a ≤ 1 = low_bit a (small 20) z.one in
      let q : b ≤ 1 = low_bit b (small 21) z.two in
      let r : c ≤ 1 = low_bit c (small 22) z.three in
      let s : d ≤ 1 = low_bit d (small 23) z.four in
      rw (le-leb a 1 p, le-leb b 1 q, le-leb c 1 r, le-leb d 1 s)

  pub flags_bad : (bit_and (little (part core 20 4)) 0xFEFEFEFE ≡ 0 → ⊥) → flags_ok core ≡ false
  unfolding flags_ok
  flags_bad n = go (flags_ok core) refl
    where
      go : (t : Bool) → flags_ok core ≡ t → t ≡ false
      go false e = refl
      go true e =
          let y : Bool = both (leb c 1) (leb d 1) in
          let x : Bool = both (leb b 1) y in
          let f : x ≡ true = both_right (leb a 1) x e in
          let g : y ≡ true = both_right (leb b 1) y f in
          let p : a ≤ 1 = leb-true a 1 (both_left (leb a 1) x e) in
          let q : b ≤ 1 = leb-true b 1 (both_left (leb b 1) y f) in
          let r : c ≤ 1 = leb-true c 1 (both_left (leb c 1) (leb d 1) g) in
          let s : d ≤ 1 = leb-true d 1 (both_right (leb c 1) (leb d 1) g) in
          let u : (x : ℕ) → x ≤ 1 → upper x ≡ 0 = λ x h. omega arith in
          let z : ((upper d * 256 + upper c) * 256 + upper b) * 256 + upper a ≡ 0 = rw (u a p, u b q, u c r, u d s) in
          absurd (n (tested ∙ z))

  pub flags_word : eqb (bit_and (little (part core 20 4)) 0xFEFEFEFE) 0 ≡ flags_ok core
  flags_word = go (eqb (bit_and (little (part core 20 4)) 0xFEFEFEFE) 0) refl
    where
      go : (t : Bool) → eqb (bit_and (little (part core 20 4)) 0xFEFEFEFE) 0 ≡ t → t ≡ flags_ok core
      go true e = sym (flags_fine (eqb-true _ 0 e))
      go false e = sym (flags_bad (eqb-false _ 0 e))
