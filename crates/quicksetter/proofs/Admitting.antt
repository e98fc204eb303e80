-- R1 to R3 of an image: what each test tells, and what a refusal leaves, or none. Assumes nothing.
use Prim.Native.Nat.{ℕ, ◌+◌, ◌<◌, ◌≤◌}
use native.Mathlib.Omega.{arith}
use mathlib.Core.Path.{◌≡◌, refl, sym, ap, ◌∙◌}
use mathlib.Core.Bool.{Bool, true, false}
use mathlib.Core.List.{List}
use borrow.Author.Tests.{eq-eqb, ne_eqb, lt-ltb, le-ltb}
use lib.ListN.{length, take, drop}
use Rattle.std.specs.Prelude.{Result, Ok, Err, IsErrAnd}
use Rattle.meaning.specs.Bytes.{pick}
use Rattle.meaning.specs.State.{apart}
use Rattle.meaning.specs.Fields.{memory_length}
use Rattle.meaning.specs.Run.{Call, lends}
use Rattle.line.specs.declared.plate.Plate as line
use Rattle.line.specs.Line.{plate_of}
use Rattle.state.specs.Queue.{queue_of}
use Rattle.image.specs.Image.{is_ours, state_in, core_in, plate_of_head, label_in}
use Rattle.quicksetter.specs.declared.refusals.Refusal.{Refusal}
use Rattle.quicksetter.specs.declared.refusals.Refusal.TheVariants.{R1, R2, R3}
use Rattle.quicksetter.specs.Calls.{plate_held, Called}
use Rattle.quicksetter.specs.Cores.{possible, refusal_in, refused_number, refusal_told, image_refusal, Unrefused, ImageUnrefused}
use Rattle.quicksetter.proofs.Heads.{ours-length, ours-label, lent-core, not_ours, called_of}
use Rattle.quicksetter.proofs.Refusing.{impossible, unsound, none_applies, refused_as_lem, refused-alone, unrefused}
use Rattle.quicksetter.proofs.Wholes.{joined}

pub some_number : (e : Refusal) → refused_number e ≡ 0 → ⊥
some_number R1 z = omega (arith, z)
some_number R2 z = omega (arith, z)
some_number R3 z = omega (arith, z)

-- a refusal that is handed on
pub told-on : (r : Result line.Plate Refusal) (e : Refusal) → IsErrAnd r (λ x. x ≡ e) → refusal_told r ≡ refused_number e
told-on (Ok p) e h = absurd h
told-on (Err x) e h = ap refused_number h

-- R1, by the tests in their order
pub told-strange : (img : List ℕ) (m w : ℕ) → is_ours img ≡ false → 1 ≡ image_refusal img m w
unfolding image_refusal
told-strange img m w e = rw e

module _ (img : List ℕ) (e : is_ours img ≡ true) {p : line.Plate} (q : p ≡ plate_of_head img) (m w : ℕ) where
  of-core : {n : ℕ} → n ≡ refusal_in (plate_of p (label_in img)) (take 165 (drop 47 img)) m w → n ≡ image_refusal img m w
  unfolding image_refusal
  of-core {n} r =
      let k : n ≡ refusal_in (plate_held img) (core_in img) m w = rw (q, lent-core img (ours-length img e)) at r in
      rw e k

  module _ {t : Bool} (can : (l : List ℕ) → length l ≡ 41 → t ≡ possible (plate_of p l) (take 165 (drop 47 img))) where
    told : t ≡ possible (plate_of p (label_in img)) (take 165 (drop 47 img))
    told = can (label_in img) (ours-label img e)

    pub told-impossible : t ≡ false → 1 ≡ image_refusal img m w
    told-impossible n = of-core (impossible _ _ m w (sym told ∙ n))

    module _ (yes : t ≡ true) {s : Bool} (waits : s ≡ apart (queue_of (state_in (take 165 (drop 47 img))).faults)) where
      pub told-unsound : s ≡ false → 1 ≡ image_refusal img m w
      told-unsound n = of-core (unsound _ _ m w (sym told ∙ yes) (sym waits ∙ n))

      pub told-none : s ≡ true → m ≡ memory_length (plate_held img).total → 134 ≤ w → 0 ≡ image_refusal img m w
      told-none y size wide =
          let k : m ≡ memory_length p.total = size ∙ ap (λ (x : line.Plate). memory_length x.total) (sym q) in
          of-core (none_applies _ _ m w (sym told ∙ yes) (sym waits ∙ y) k wide)

-- none applies
pub image_unrefused : (img : List ℕ) (m w : ℕ) → 0 ≡ image_refusal img m w → ImageUnrefused img m w
unfolding image_refusal
image_unrefused img m w e = go (is_ours img) refl e
  where
    go : (t : Bool) → is_ours img ≡ t → 0 ≡ pick t (refusal_in (plate_held img) (core_in img) m w) 1 → ImageUnrefused img m w
    go true o z = record { ours = o; core = unrefused (plate_held img) (core_in img) m w z }
    go false o z = absurd (omega (arith, z))

-- of an image that R1 does not refuse
module _ (img : List ℕ) (m w : ℕ) (sound : 0 ≡ image_refusal img (memory_length (plate_held img).total) 134) where
  u : ImageUnrefused img (memory_length (plate_held img).total) 134
  u = image_unrefused img _ 134 sound

  pub told-size : (m ≡ memory_length (plate_held img).total → ⊥) → 2 ≡ image_refusal img m w
  unfolding image_refusal refusal_in
  told-size n = rw (u.ours, u.core.bytes, u.core.plate, u.core.state, ne_eqb m _ n)

  module _ (size : m ≡ memory_length (plate_held img).total) where
    pub told-narrow : w < 134 → 3 ≡ image_refusal img m w
    unfolding image_refusal refusal_in
    told-narrow n = rw (u.ours, u.core.bytes, u.core.plate, u.core.state, eq-eqb m _ size, lt-ltb w 134 n)

    pub told-free : 134 ≤ w → 0 ≡ image_refusal img m w
    unfolding image_refusal refusal_in
    told-free n = rw (u.ours, u.core.bytes, u.core.plate, u.core.state, eq-eqb m _ size, le-ltb w 134 n)

-- the core that is lent
pub lent-free : (img : List ℕ) → 0 ≡ image_refusal img (memory_length (plate_held img).total) 134 → Unrefused (plate_held img) (take 165 (drop 47 img)) (memory_length (plate_held img).total) 134
lent-free img e =
    let u = image_unrefused img _ 134 e in
    rw (lent-core img (ours-length img u.ours)) u.core

-- R1 comes first: whatever memory and room are
first : (a b c d f : Bool) → (◌≡◌ {A = ℕ} (pick a (pick b 1 (pick c 1 0)) 1) 0 → ⊥) → ◌≡◌ {A = ℕ} (pick a (pick b 1 (pick c 1 0)) 1) (pick a (pick b 1 (pick c 1 (pick d 2 (pick f 3 0)))) 1)
first true true c d f n = refl
first true false true d f n = refl
first true false false d f n = absurd (n refl)
first false b c d f n = refl

pub told-first : (img : List ℕ) (m w : ℕ) {n : ℕ} → (n ≡ 0 → ⊥) → n ≡ image_refusal img (memory_length (plate_held img).total) 134 → n ≡ image_refusal img m w
unfolding image_refusal refusal_in
told-first img m w {n} some e =
    let z = eq-eqb (memory_length (plate_held img).total) _ refl in
    let k = rw z at e in
    k ∙ first (is_ours img) _ _ _ _ (λ y. some (k ∙ y))

-- a call that is refused does nothing
module _ (img m w : List ℕ) (g : Call) {n : ℕ} (some : n ≡ 0 → ⊥) where
  pub refused_so : lends g ≡ true → n ≡ image_refusal img (length m) (length w) → Called img m w g (256 + n) img m w
  unfolding image_refusal
  refused_so l e = go (is_ours img) refl e
    where
      go : (t : Bool) → is_ours img ≡ t → n ≡ pick t (refusal_in (plate_held img) (core_in img) (length m) (length w)) 1 → Called img m w g (256 + n) img m w
      go true o z = called_of img m w g o (refused_as_lem (plate_held img) (core_in img) m w g l z some) (joined img)
      go false o z = rw z (not_ours img m w g o)

  -- what lends nothing meets R1 alone
  pub alone_so : lends g ≡ false → n ≡ image_refusal img (memory_length (plate_held img).total) 134 → Called img m w g (256 + n) img m w
  unfolding image_refusal
  alone_so l e = go (is_ours img) refl e
    where
      go : (t : Bool) → is_ours img ≡ t → n ≡ pick t (refusal_in (plate_held img) (core_in img) (memory_length (plate_held img).total) 134) 1 → Called img m w g (256 + n) img m w
      go true o z = called_of img m w g o (refused-alone (plate_held img) (core_in img) m w g l z some) (joined img)
      go false o z = rw z (not_ours img m w g o)
