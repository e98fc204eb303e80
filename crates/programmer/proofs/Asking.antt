-- Laws of the wanted fields as the code finds them, and of the requests that it writes. Assumes nothing.
use Prim.Native.Nat.{ℕ, suc, ◌+◌, ◌/◌, ◌%◌, ◌≤◌, ◌<◌}
use mathlib.Core.Path.{◌≡◌, refl, sym, ap, ◌∙◌}
use mathlib.Core.Bool.{true, false}
use mathlib.Core.List.{List, [], ◌∷◌, ◌++◌, append-nil}
use native.Mathlib.Omega.{arith}
use lib.ListN.{length, take, drop, get_or-eq_default}
use lib.Seq.{take_at}
use borrow.Author.Tests.{lt-ltb, le-ltb, eqb-false}
use Rattle.meaning.specs.Bytes.{arg, put, same}
use Rattle.meaning.specs.Fields.{code_no, writable}
use Rattle.meaning.proofs.Puts.{put_front}
use Rattle.records.proofs.Bytes.{part-byte}
use Rattle.programmer.specs.Wishes.{Field, Wish, no_field, wanted, code_for, wish_of}
use Rattle.programmer.specs.Steps.{due, making, locking, onto}
use Rattle.programmer.specs.Reading.{FoundField, Wants}
use Rattle.programmer.specs.declared.step.Step.TheVariants.{Create, Store, Read}
use Rattle.programmer.specs.declared.step.Why.TheVariants.{Differs}
use Rattle.programmer.specs.declared.wish.Wanted.{Wanted}
use Rattle.programmer.specs.declared.step.Standing.TheVariants.{At, Done, Failed}

pub code_is : (s : List ℕ) (st k : ℕ) → k ≡ code_no st → k < 4 → arg s (4 + k) ≡ code_for (wish_of s) st
unfolding wish_of
code_is s st k e h = sym (part-byte s 4 4 k h) ∙ rw e

pub wants_found : (l : Wish) (i : ℕ) (w : Wanted) → FoundField l i w → Wants l i w
wants_found l i w h = record {
  status_is = ap (λ (f : Field). f.status) h.is;
  bytes_are = ap (λ (f : Field). f.bytes) h.is;
  few = h.few;
}

pub wants_none : (l : Wish) (i : ℕ) (w : Wanted) → length l.fields ≤ i → 0 ≡ w.status → [] ≡ w.bytes.now → Wants l i w
wants_none l i w h z y =
    let e : wanted l i ≡ no_field = get_or-eq_default l.fields no_field h in
    record {
      status_is = ap (λ (f : Field). f.status) e ∙ z;
      bytes_are = ap (λ (f : Field). f.bytes) e ∙ y;
      few = rw (← y) (omega arith);
    }

-- without bit 6 there is room for it
pub clear_bit : (st : ℕ) → writable st ≡ false → st / 64 % 2 ≡ 0
unfolding writable
clear_bit st e = omega (arith, eqb-false (st / 64 % 2) 1 e)

pub making_found : (l : Wish) (i : ℕ) (w : Wanted) → FoundField l i w → At (Create i) ≡ making l i
unfolding making
making_found l i w h = rw (lt-ltb i (length l.fields) h.there)

pub making_none : (l : Wish) (i : ℕ) → length l.fields ≤ i → Done ≡ making l i
unfolding making
making_none l i h = rw (le-ltb i (length l.fields) h)

-- what is found is what is due
module _ (l : Wish) (i : ℕ) (w : Wanted) (W : Wants l i w) (c : ℕ) (e : c ≡ code_for l w.status) where
  abbrev n : ℕ
  n = length w.bytes.now

  pub store_body : (d last : List ℕ) → last ≡ put d 0 w.bytes.now → take (4 + n) (i ∷ 0 ∷ n ∷ c ∷ (last ++ [])) ≡ (due l (Store i)).body
  unfolding due
  store_body d last q =
      let z : 4 + n ≡ suc (suc (suc (suc n))) = omega arith in
      rw (W.status_is, W.bytes_are, z, append-nil, q, put_front d w.bytes.now, take_at w.bytes.now (drop n d) n refl, e)

module _ (l : Wish) (i : ℕ) (w : Wanted) (W : Wants l i w) where
  pub read_differs : (d : List ℕ) → same (drop 3 d) w.bytes.now ≡ false → Failed (Read i) Differs ≡ onto l (Read i) d
  unfolding onto
  read_differs d e = rw (W.bytes_are, e)

  pub read_agrees : (d : List ℕ) → same (drop 3 d) w.bytes.now ≡ true → locking l i ≡ onto l (Read i) d
  unfolding onto
  read_agrees d e = rw (W.bytes_are, e)
