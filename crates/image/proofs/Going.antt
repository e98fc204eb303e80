-- A character in place: the first of a frame, one more of an open one, and one past the 135th. Assumes nothing.
use Prim.Native.Nat.{ℕ, zero, suc, ◌+◌, ◌<◌, ◌≤◌, ◌^◌}
use native.Mathlib.Omega.{arith}
use native.Mathlib.Nat.{zero-add, suc-add}
use mathlib.Core.Path.{◌≡◌, refl, sym, ap, ◌∙◌, subst}
use mathlib.Core.Bool.{Bool, true, false, ◌||◌}
use mathlib.Core.List.{List, [], ◌∷◌, ◌++◌, append_assoc}
use borrow.Author.Tests.{eq-eqb, ne_eqb}
use lib.Bits.{bit_xor, bit_or}
use lib.Dec.{eqb}
use lib.ListN.{length, take, drop, set, length-set}
use lib.Seq.{take-append-add, drop-append-add}
use Rattle.meaning.specs.Bytes.{arg, put, pick}
use Rattle.meaning.specs.State.{Line, none}
use Rattle.meaning.specs.Characters.{more}
use Rattle.meaning.proofs.Puts.{length-put}
use Rattle.line.specs.declared.characters.OpenFrame.{OpenFrame}
use Rattle.line.specs.Line.{line_of, no_frame, Fits, Extends}
use Rattle.line.proofs.Kept.{has_room, has_none}
use Rattle.wire.specs.Numbers.{low4}
use Rattle.image.specs.Image.{flag_byte, frame_in, kept_in, line_bytes}
use Rattle.image.specs.Writes.{frame_row, frame_bytes, Open, Takes, PutsFrame}
use Rattle.image.proofs.Standing.{flag_back, line_row}
use Rattle.image.proofs.Parts.{front_length, kept-length, laid_out, takes, takes_of}
use Rattle.image.proofs.Round.{good}

-- the first of a frame
pub begins : (core : List ℕ) (tick v : ℕ) (bad : Bool) {n r : OpenFrame} {kept core' : List ℕ} → length core ≡ 165 → n ≡ no_frame
    → Extends (more (pick n.begun (line_of n (kept_in core)) none) tick v bad) (kept_in core) r kept
    → PutsFrame r (take 30 core ++ (kept ++ drop 135 (drop 30 core))) core' → Takes (more none tick v bad) core core'
begins core tick v bad {n} {r} {kept} all e x q =
    let y : Extends (more none tick v bad) (kept_in core) r kept = rw e at x in
    takes core (more none tick v bad) all y q

pub nothing-fits : (core : List ℕ) {n : OpenFrame} → length core ≡ 165 → n ≡ no_frame → Fits n (kept_in core)
nothing-fits core all e = record { few = rw e (omega arith); all = kept-length core all }

set_past : (front ys : List ℕ) (j v : ℕ) → set (front ++ ys) (length front + j) v ≡ front ++ set ys j v
set_past [] ys j v = rw zero-add
set_past (x ∷ front) ys j v = rw suc-add (ap (λ (r : List ℕ). x ∷ r) (set_past front ys j v))

pub parity_joined : (c : ℕ) (bad : Bool) → c ≤ 1 → bit_or c (flag_byte bad) ≡ flag_byte (eqb c 1 || bad)
unfolding flag_byte
parity_joined zero true h = refl
parity_joined zero false h = refl
parity_joined (suc zero) true h = refl
parity_joined (suc zero) false h = refl
parity_joined (suc (suc c)) bad h = absurd (omega arith)

module _ (core : List ℕ) (all : length core ≡ 165) (p t s : ℕ) where
  abbrev front : List ℕ
  front = take 21 core

  stamped_is : put core 23 (p ∷ low4 t (s ∷ [])) ≡ take 21 core ++ (arg core 21 ∷ arg core 22 ∷ p ∷ low4 t (s ∷ arg core 29 ∷ kept_in core))
  unfolding put
  stamped_is =
      let six : List ℕ = p ∷ low4 t (s ∷ []) in
      let ys : List ℕ = arg core 21 ∷ arg core 22 ∷ arg core 23 ∷ arg core 24 ∷ arg core 25 ∷ arg core 26 ∷ arg core 27 ∷ arg core 28 ∷ arg core 29 ∷ kept_in core in
      let a : length (take 21 core) ≡ 21 = front_length core all in
      let f : take 23 (take 21 core ++ ys) ≡ take 21 core ++ (arg core 21 ∷ arg core 22 ∷ []) = rw a at (take-append-add (take 21 core) ys 2) in
      let d : drop 29 (take 21 core ++ ys) ≡ arg core 29 ∷ kept_in core = rw a at (drop-append-add (take 21 core) ys 8) in
      ap (λ (x : List ℕ). take 23 x ++ (six ++ drop 29 x)) (laid_out core all) ∙ rw (f, d) (append_assoc (take 21 core) (arg core 21 ∷ arg core 22 ∷ []) (six ++ (arg core 29 ∷ kept_in core)))

  at_21 : (ys : List ℕ) (j v : ℕ) → set (take 21 core ++ ys) (21 + j) v ≡ take 21 core ++ set ys j v
  at_21 ys j v = rw (front_length core all) at (set_past (take 21 core) ys j v)

  pub one_kept : (n v k : ℕ) → set (set (put core 23 (p ∷ low4 t (s ∷ []))) (30 + n) v) 29 k
      ≡ take 21 core ++ (arg core 21 ∷ arg core 22 ∷ p ∷ low4 t (s ∷ k ∷ set (kept_in core) n v))
  one_kept n v k =
      let ys : List ℕ = arg core 21 ∷ arg core 22 ∷ p ∷ low4 t (s ∷ arg core 29 ∷ kept_in core) in
      let zs : List ℕ = arg core 21 ∷ arg core 22 ∷ p ∷ low4 t (s ∷ arg core 29 ∷ set (kept_in core) n v) in
      let e : 30 + n ≡ 21 + suc (suc (suc (suc (suc (suc (suc (suc (suc n)))))))) = omega arith in
      let f : set (take 21 core ++ ys) (30 + n) v ≡ take 21 core ++ zs = rw e (at_21 ys (suc (suc (suc (suc (suc (suc (suc (suc (suc n))))))))) v) in
      ap (λ (x : List ℕ). set (set x (30 + n) v) 29 k) stamped_is ∙ ap (λ (x : List ℕ). set x 29 k) f ∙ at_21 zs 8 k

  pub none_kept : set (put core 23 (p ∷ low4 t (s ∷ []))) 22 1 ≡ take 21 core ++ (arg core 21 ∷ 1 ∷ p ∷ low4 t (s ∷ arg core 29 ∷ kept_in core))
  none_kept =
      let ys : List ℕ = arg core 21 ∷ arg core 22 ∷ p ∷ low4 t (s ∷ arg core 29 ∷ kept_in core) in
      ap (λ (x : List ℕ). set x 22 1) stamped_is ∙ at_21 ys 1 1

-- of an open frame whose stamp is written: r is the parity fault that came with the character
module _ (core : List ℕ) (o : Open core) (tick v : ℕ) (bad : Bool) (low : tick < 2 ^ 32) {r : ℕ} (e : r ≡ flag_byte bad) {st : List ℕ}
    (w : st ≡ put core 23 (bit_or (arg core 23) r ∷ low4 tick (bit_xor (arg core 28) v ∷ []))) where
  fits : Fits (frame_in core) (kept_in core)
  unfolding frame_in
  fits = record { few = (good core o.bytes).few; all = kept-length core (good core o.bytes).all }

  pub stamped_length : length st ≡ 165
  stamped_length =
      let all : length core ≡ 165 = (good core o.bytes).all in
      ap length w ∙ length-put core 23 (bit_or (arg core 23) r ∷ low4 tick (bit_xor (arg core 28) v ∷ [])) (omega arith) ∙ all

  parity-is : flag_byte (eqb (arg core 23) 1 || bad) ≡ bit_or (arg core 23) r
  parity-is = sym (parity_joined (arg core 23) bad (good core o.bytes).parity) ∙ ap (bit_or (arg core 23)) (sym e)

  longer-is : flag_byte (eqb (arg core 22) 1) ≡ arg core 22
  longer-is = flag_back (arg core 22) (good core o.bytes).longer

  -- a line that f and the places say, by its bytes
  rows : (l : Line) (f : OpenFrame) (kept : List ℕ) → Extends l (kept_in core) f kept → length kept ≡ 135
      → line_bytes l ≡ frame_bytes f
  rows l f kept x c = sym (ap line_bytes x.line) ∙ line_row f kept (record { few = x.few; all = c })

  pub goes_on : arg core 29 < 135
      → Takes (more (line_of (frame_in core) (kept_in core)) tick v bad) core (set (set st (30 + arg core 29) v) 29 (arg core 29 + 1))
  unfolding frame_in frame_row flag_byte
  goes_on h =
      let all : length core ≡ 165 = (good core o.bytes).all in
      let l : Line = more (line_of (frame_in core) (kept_in core)) tick v bad in
      let p : ℕ = bit_or (arg core 23) r in
      let s : ℕ = bit_xor (arg core 28) v in
      let n : ℕ = arg core 29 in
      let kept : List ℕ = set (kept_in core) n v in
      let x = has_room (frame_in core) (kept_in core) tick v bad fits h in
      let c : length kept ≡ 135 = length-set (kept_in core) n v ∙ kept-length core all in
      let q : line_bytes l ≡ 1 ∷ flag_byte (eqb (arg core 22) 1) ∷ flag_byte (eqb (arg core 23) 1 || bad) ∷ low4 tick (s ∷ (n + 1) ∷ []) = rows l _ kept x c in
      let z : take 21 core ++ (line_bytes l ++ kept) ≡ take 21 core ++ (1 ∷ arg core 22 ∷ p ∷ low4 tick (s ∷ (n + 1) ∷ kept)) = rw (q, longer-is, parity-is) in
      let y : set (set st (30 + n) v) 29 (n + 1) ≡ take 21 core ++ (1 ∷ arg core 22 ∷ p ∷ low4 tick (s ∷ (n + 1) ∷ kept)) =
      ap (λ (k : List ℕ). set (set k (30 + n) v) 29 (n + 1)) w ∙ one_kept core all p tick s n v (n + 1) ∙ rw o.begun in
      takes_of core l all low x c (y ∙ sym z)

  pub goes-past : 135 ≤ arg core 29 → Takes (more (line_of (frame_in core) (kept_in core)) tick v bad) core (set st 22 1)
  unfolding frame_in frame_row flag_byte
  goes-past h =
      let all : length core ≡ 165 = (good core o.bytes).all in
      let l : Line = more (line_of (frame_in core) (kept_in core)) tick v bad in
      let p : ℕ = bit_or (arg core 23) r in
      let s : ℕ = bit_xor (arg core 28) v in
      let n : ℕ = arg core 29 in
      let x = has_none (frame_in core) (kept_in core) tick v bad fits h in
      let c : length (kept_in core) ≡ 135 = kept-length core all in
      let q : line_bytes l ≡ 1 ∷ 1 ∷ flag_byte (eqb (arg core 23) 1 || bad) ∷ low4 tick (s ∷ n ∷ []) = rows l _ (kept_in core) x c in
      let z : take 21 core ++ (line_bytes l ++ kept_in core) ≡ take 21 core ++ (1 ∷ 1 ∷ p ∷ low4 tick (s ∷ n ∷ kept_in core)) = rw (q, parity-is) in
      let y : set st 22 1 ≡ take 21 core ++ (1 ∷ 1 ∷ p ∷ low4 tick (s ∷ n ∷ kept_in core)) =
      ap (λ (k : List ℕ). set k 22 1) w ∙ none_kept core all p tick s ∙ rw o.begun in
      takes_of core l all low x c (y ∙ sym z)

-- by the core's flag
module _ (core : List ℕ) (tick v : ℕ) (bad : Bool) (core' : List ℕ) where
  abbrev taken_by_lem : Bool → Type 0
  taken_by_lem t = Takes (more (pick t (line_of (frame_in core) (kept_in core)) none) tick v bad) core core'

  pub open_taken : arg core 21 ≡ 1 → Takes (more (line_of (frame_in core) (kept_in core)) tick v bad) core core' → taken_by_lem (frame_in core).begun
  unfolding frame_in
  open_taken e h = subst taken_by_lem (sym (eq-eqb (arg core 21) 1 e)) h

  pub first_taken : (arg core 21 ≡ 1 → ⊥) → Takes (more none tick v bad) core core' → taken_by_lem (frame_in core).begun
  unfolding frame_in
  first_taken e h = subst taken_by_lem (sym (ne_eqb (arg core 21) 1 e)) h
