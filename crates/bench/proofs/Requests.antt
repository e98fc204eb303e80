-- What `write_request` leaves, from its contract. Assumes nothing.
use mathlib.Core.Path.{◌≡◌, refl, sym, ap, subst}
use mathlib.Core.Bool.{Bool, true, false, not}
use mathlib.Core.List.{List}
use Prim.Native.Nat.{ℕ}
use lib.Dec.{T, ltb}
use lib.ListN.{length, take, drop}
use borrow.Author.Tests.{eqb-false}
use lib.Seq.{take-append_seam}
use Rattle.meaning.specs.Bytes.{pick, both, put}
use Rattle.meaning.specs.Commands.{command_of}
use Rattle.meaning.specs.Bench.{address_ok, address_for, allowed, request, writes, written}
use Rattle.meaning.specs.Bench as meaning
use Rattle.meaning.proofs.Steps.{both_0, both_1}
use Rattle.meaning.proofs.Wire.{writes_well}
use Rattle.bench.specs.Outcomes.{written_of}
use Rattle.bench.specs.declared.request.Unwritten.TheVariants.{R4, R5}
use Rattle.std.specs.Prelude.{Ok, Err}
use Rattle.meaning.proofs.Puts.{put_front}

-- the request that stands at the front of the buffer passes B0, and is the one that was meant
pub record Meant (n c k : ℕ) (d after : List ℕ) : Type 0 where
  pub front : take k after ≡ request (address_for n) c d
  pub passes : T (written (take k after))

pub written-meant : (n c k : ℕ) (d buffer after : List ℕ) → written_of (Ok k) after ≡ writes n c d buffer → Meant n c k d after
unfolding writes
written-meant n c k d buffer after = go (ltb (length buffer) 135) (both (address_ok n) (allowed (command_of c) d)) (λ g. g)
  where
    q : List ℕ
    q = request (address_for n) c d

    well : T (both (address_ok n) (allowed (command_of c) d)) → k ≡ length q → after ≡ put buffer 0 q → Meant n c k d after
    well g e f =
        let fronts : take k after ≡ q = rw (e, f, put_front buffer q) (take-append_seam q (drop (length q) buffer)) in
        let ok = both_0 (address_ok n) (allowed (command_of c) d) g in
        let may = both_1 (address_ok n) (allowed (command_of c) d) g in
        record { front = fronts; passes = subst (λ (l : List ℕ). T (written l)) (sym fronts) (writes_well n c d ok may).0 }

    go : (s g : Bool) → (T g → T (both (address_ok n) (allowed (command_of c) d)))
        → written_of (Ok k) after ≡ pick s (written_of (Err R4) buffer) (pick (not g) (written_of (Err R5) buffer) (written_of (Ok (length q)) (put buffer 0 q)))
        → Meant n c k d after
    go true g l e = absurd (eqb-false 0 4 refl (ap (λ (w : meaning.Written). w.refusal) e))
    go false false l e = absurd (eqb-false 0 5 refl (ap (λ (w : meaning.Written). w.refusal) e))
    go false true l e = well (l tt) (ap (λ (w : meaning.Written). w.count) e) (ap (λ (w : meaning.Written). w.buffer) e)
