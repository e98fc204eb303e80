-- Laws of the bench's checks: what a request may have, an error reply and another. Assumes nothing.
use mathlib.Core.Path.{◌≡◌, refl, sym, ap, ap₂, ◌∙◌}
use mathlib.Core.Bool.{Bool, true, false}
use mathlib.Core.List.{List, ◌∷◌}
use Prim.Native.Nat.{ℕ, ◌+◌, ◌-◌, ◌%◌, ◌≤◌, ◌<◌}
use native.Mathlib.Omega.{arith}
use borrow.Author.Tests.{eq-eqb, ne_eqb, le-leb, lt-leb, lt-ltb, le-ltb, leb-true}
use lib.Dec.{eqb, leb}
use lib.ListN.{length, take, length-take, length-drop}
use Rattle.meaning.specs.Bytes.{either, arg, put, xor_all, same}
use Rattle.meaning.specs.State.{between}
use Rattle.meaning.specs.Commands.{Command, c42, c43, c46, c47, c49, c4a, c4b, c4c, c4d, c4e, c4f, c50, c52, c53, c55, c56, unknown, command_of, row, length_fits, asked}
use Rattle.meaning.specs.Commands as meaning
use Rattle.meaning.specs.Frames.{command_byte, data_of}
use Rattle.meaning.specs.Bench.{in_range, allowed, address_ok, address_for, request, writes, written, judge, right_address, bare, refusal, done, failed, bad, branch, warning, error_reply, right_length, repeated, content}
use Rattle.meaning.proofs.Steps.{Named, named}
use Rattle.meaning.proofs.Wire.{length-sealed, writes_well}
use Rattle.wire.specs.Table.{row_of}
use Rattle.wire.specs.declared.table.Row.{Row}
use Rattle.bench.specs.Outcomes.{written_of}
use Rattle.bench.specs.declared.request.Unwritten.TheVariants.{R4, R5}
use Rattle.std.specs.Prelude.{Option, Some, None, Ok, Err}
use Rattle.meaning.proofs.Choices.{both_left}

either_cases : (a b : Bool) → either a b ≡ true → b ≡ false → a ≡ true
either_cases true b e n = refl
either_cases false b e n = sym n ∙ e

pub address_small : (n : ℕ) → address_ok n ≡ true → (n ≡ 255 → ⊥) → n ≤ 31
unfolding address_ok
address_small n e k = leb-true n 31 (either_cases (leb n 31) (eqb n 255) e (ne_eqb n 255 k))

-- the length of a request's data is right by the code's row just where it is by the meaning's
pub fits-asked : (r : Option Row) (c : ℕ) (d : List ℕ) (b : Bool) → row_of r ≡ row (command_of c) → b ≡ length_fits (row_of r).request d d
    → asked (command_of c) d ≡ b
unfolding asked
fits-asked r c d b e h = ap (λ (w : meaning.Row). length_fits w.request d d) (sym e) ∙ sym h

-- .. and of an unknown command none is
pub none-allowed : (c : ℕ) (d : List ℕ) → row_of None ≡ row (command_of c) → allowed (command_of c) d ≡ false
unfolding allowed asked length_fits
none-allowed c d e = rw (← ap (λ (w : meaning.Row). w.request) e) refl

pub none-fits : (q p : List ℕ) → row_of None ≡ row (command_of (command_byte q)) → right_length q p ≡ false
unfolding right_length length_fits
none-fits q p e = rw (← ap (λ (w : meaning.Row). w.reply) e) refl

-- R5: "4Ah's count 0 or over 128; 4Fh's number over 3. Not otherwise"
pub in_range_4a : (c : ℕ) (d : List ℕ) (n : ℕ) → c ≡ 0x4A → n ≡ arg d 2 → in_range (command_of c) d ≡ between 1 128 n
unfolding command_of in_range
in_range_4a c d n e f = rw (e, f)

pub in_range_4f : (c : ℕ) (d : List ℕ) (n : ℕ) → c ≡ 0x4F → n ≡ arg d 0 → in_range (command_of c) d ≡ leb n 3
unfolding command_of in_range
in_range_4f c d n e f = rw (e, f)

pub in_range_else : (c : ℕ) (d : List ℕ) → asked (command_of c) d ≡ true → (c ≡ 0x4A → ⊥) → (c ≡ 0x4F → ⊥) → in_range (command_of c) d ≡ true
unfolding in_range asked row length_fits
in_range_else c d e n m = go (command_of c) (named c) e
  where
    go : (k : Command) → Named k c → asked k d ≡ true → in_range k d ≡ true
    go c42 h e = refl
    go c43 h e = refl
    go c46 h e = refl
    go c47 h e = refl
    go c49 h e = refl
    go c4a h e = absurd (n h)
    go c4b h e = refl
    go c4c h e = refl
    go c4d h e = refl
    go c4e h e = refl
    go c4f h e = absurd (m h)
    go c50 h e = refl
    go c52 h e = refl
    go c53 h e = refl
    go c55 h e = refl
    go c56 h e = refl
    go unknown h e = e

pub not-asked : (c : ℕ) (d : List ℕ) → asked (command_of c) d ≡ false → allowed (command_of c) d ≡ false
unfolding allowed
not-asked c d e = rw e

pub asked_well : (c : ℕ) (d : List ℕ) (b : Bool) → asked (command_of c) d ≡ true → in_range (command_of c) d ≡ b → allowed (command_of c) d ≡ b
unfolding allowed
asked_well c d b e h = rw e h

pub data_length : (f : List ℕ) → length (data_of f) ≡ length f - 3
unfolding data_of
data_length f = simp (length-take, length-drop) (omega arith)

module _ (q r : List ℕ) (e : error_reply q r ≡ true) where
  pub error_long : (length r ≡ 4 → ⊥) → content q r ≡ refusal 5
  unfolding content branch bad
  error_long n = simp (e, ne_eqb (length (data_of r)) 1 (λ k. n (omega (arith, data_length r))))

  error-told : (w : Bool) → length r ≡ 4 → warning r ≡ w → content q r ≡ failed w (arg r 2)
  unfolding content branch bad
  error-told w n k = simp (e, eq-eqb (length (data_of r)) 1 (omega (arith, data_length r)), k)

  pub error_calm : length r ≡ 4 → arg r 1 < 128 → content q r ≡ failed false (arg r 2)
  unfolding warning
  error_calm n h = error-told false n (lt-leb 128 (arg r 1) h)

  pub error_warned : length r ≡ 4 → 128 ≤ arg r 1 → content q r ≡ failed true (arg r 2)
  unfolding warning
  error_warned n h = error-told true n (le-leb 128 (arg r 1) h)

-- B5 and B6 by the code's row
pub fits-reply : (r : Option Row) (q p : List ℕ) (b : Bool) → row_of r ≡ row (command_of (command_byte q)) → b ≡ length_fits (row_of r).reply (data_of q) (data_of p)
    → right_length q p ≡ b
unfolding right_length
fits-reply r q p b e h = ap (λ (w : meaning.Row). length_fits w.reply (data_of q) (data_of p)) (sym e) ∙ sym h

pub fits-repeated : (r : Option Row) (q p : List ℕ) (b : Bool) → row_of r ≡ row (command_of (command_byte q))
    → b ≡ same (take (row_of r).repeats (data_of p)) (take (row_of r).repeats (data_of q)) → repeated q p ≡ b
unfolding repeated
fits-repeated r q p b e h = ap (λ (w : meaning.Row). same (take w.repeats (data_of p)) (take w.repeats (data_of q))) (sym e) ∙ sym h

-- .. where the code looks at parts x and y that are the data of request and reply, and at fronts u and v of them
pub right_by_row : (r : Option Row) (q p x y : List ℕ) (b : Bool) → row_of r ≡ row (command_of (command_byte q)) → x ≡ data_of q → y ≡ data_of p
    → ((d : List ℕ) → length d ≡ length y → b ≡ length_fits (row_of r).reply x d) → right_length q p ≡ b
right_by_row r q p x y b e f g h =
    fits-reply r q p b e (h (data_of p) (ap (λ (d : List ℕ). length d) (sym g)) ∙ ap (λ (d : List ℕ). length_fits (row_of r).reply d (data_of p)) f)

pub repeated_by_row : (r : Option Row) (q p x y u v : List ℕ) (b : Bool) → row_of r ≡ row (command_of (command_byte q)) → x ≡ data_of q → y ≡ data_of p
    → u ≡ take (row_of r).repeats x → v ≡ take (row_of r).repeats y → b ≡ same v u → repeated q p ≡ b
repeated_by_row r q p x y u v b e f g h k l =
    fits-repeated r q p b e (l ∙ ap₂ same (k ∙ ap (take (row_of r).repeats) g) (h ∙ ap (take (row_of r).repeats) f))

module _ (q r : List ℕ) (e : error_reply q r ≡ false) where
  pub wrong_length : right_length q r ≡ false → content q r ≡ refusal 5
  unfolding content branch bad
  wrong_length f = simp (e, f)

  pub not-repeated : right_length q r ≡ true → repeated q r ≡ false → content q r ≡ refusal 6
  unfolding content branch bad
  not-repeated f g = simp (e, f, g)

  done-told : (w : Bool) → right_length q r ≡ true → repeated q r ≡ true → warning r ≡ w → content q r ≡ done w (data_of r)
  unfolding content branch bad
  done-told w f g k = simp (e, f, g, k)

  pub done-calm : right_length q r ≡ true → repeated q r ≡ true → arg r 1 < 128 → content q r ≡ done false (data_of r)
  unfolding warning
  done-calm f g h = done-told false f g (lt-leb 128 (arg r 1) h)

  pub done-warned : right_length q r ≡ true → repeated q r ≡ true → 128 ≤ arg r 1 → content q r ≡ done true (data_of r)
  unfolding warning
  done-warned f g h = done-told true f g (le-leb 128 (arg r 1) h)

-- R4, R5, and a request that is written
module _ (n c : ℕ) (d buffer : List ℕ) where
  pub buffer-short : length buffer < 135 → written_of (Err R4) buffer ≡ writes n c d buffer
  unfolding writes
  buffer-short h = simp (lt-ltb (length buffer) 135 h)

  pub address_wrong : 135 ≤ length buffer → address_ok n ≡ false → written_of (Err R5) buffer ≡ writes n c d buffer
  unfolding writes
  address_wrong h e = simp (le-ltb (length buffer) 135 h, e)

  pub data_wrong : 135 ≤ length buffer → address_ok n ≡ true → allowed (command_of c) d ≡ false → written_of (Err R5) buffer ≡ writes n c d buffer
  unfolding writes
  data_wrong h e f = simp (le-ltb (length buffer) 135 h, e, f)

  module _ (e : address_ok n ≡ true) (f : allowed (command_of c) d ≡ true) where
    pub request_length : length (request (address_for n) c d) ≡ length d + 3
    unfolding request
    request_length = omega (arith, length-sealed (address_for n ∷ c ∷ d))

    pub request_fits : length d + 3 ≤ 135
    request_fits = omega (arith, request_length, (writes_well n c d (rw e tt) (rw f tt)).1)

    pub request-written : (after : List ℕ) → 135 ≤ length buffer → after ≡ put buffer 0 (request (address_for n) c d)
        → written_of (Ok (length d + 3)) after ≡ writes n c d buffer
    unfolding writes
    request-written after h k = simp (le-ltb (length buffer) 135 h, e, f, request_length, k)

-- 01, "Checks in order: B0 to B6"
module _ (q r : List ℕ) where
  pub not_written : written q ≡ false → judge q r ≡ refusal 0
  unfolding judge bad
  not_written e = simp e

  pub written-long : written q ≡ true → 3 ≤ length q
  unfolding written
  written-long e = leb-true 3 (length q) (both_left (leb 3 (length q)) _ e)

  module _ (w : written q ≡ true) where
    pub reply-short : length r < 3 → judge q r ≡ refusal 1
    unfolding judge bad
    reply-short h = simp (w, lt-ltb (length r) 3 h)

    module _ (l : 3 ≤ length r) where
      pub sum_wrong : (xor_all r ≡ 0 → ⊥) → judge q r ≡ refusal 2
      unfolding judge bad
      sum_wrong x = simp (w, le-ltb (length r) 3 l, ne_eqb (xor_all r) 0 x)

      module _ (x : xor_all r ≡ 0) where
        pub address-unfit : right_address q r ≡ false → judge q r ≡ refusal 3
        unfolding judge bad
        address-unfit a = simp (w, le-ltb (length r) 3 l, eq-eqb (xor_all r) 0 x, a)

        module _ (a : right_address q r ≡ true) where
          pub command_wrong : either (eqb (arg r 1 % 128) (arg q 1)) (eqb (arg r 1 % 128) 0x50) ≡ false → judge q r ≡ refusal 4
          unfolding judge bad bare command_byte
          command_wrong c = simp (w, le-ltb (length r) 3 l, eq-eqb (xor_all r) 0 x, a, c)

          pub to-content : either (eqb (arg r 1 % 128) (arg q 1)) (eqb (arg r 1 % 128) 0x50) ≡ true → judge q r ≡ content q r
          unfolding judge bad bare command_byte
          to-content c = simp (w, le-ltb (length r) 3 l, eq-eqb (xor_all r) 0 x, a, c)
