-- A refused call touches nothing; any other fills the front of the room and leaves the rest. Assumes nothing.
use Prim.Native.Nat.{ℕ, ◌≤◌}
use native.Mathlib.Omega.{arith}
use mathlib.Core.Path.{◌≡◌, refl}
use mathlib.Core.Bool.{Bool, true, false, not}
use mathlib.Core.List.{List}
use lib.Dec.{T, eqb, ltb}
use lib.ListN.{length, drop}
use lib.Seq.{drop-append_seam, take-append_seam}
use Rattle.meaning.specs.Bytes.{pick, either, longest_reply}
use Rattle.meaning.specs.State.{Plate, State, plate_ok, state_ok}
use Rattle.meaning.specs.Fields.{memory_length}
use Rattle.meaning.specs.Characters.{taken}
use Rattle.meaning.specs.Run.{Call, step, lends, refused_by, Held, left_by, called}
use Rattle.meaning.specs.Demands.{RefusedUntouched, Served, ServedOtherwise, OpensEmpty}
use Rattle.meaning.proofs.Puts.{put_front}

-- R1 to R3 have no higher number
pub few_refusals : (p : Plate) (s : State) (m : List ℕ) (r : ℕ) (g : Call) → refused_by p s m r g ≤ 3
unfolding refused_by
few_refusals p s m r g = go (either (not (plate_ok p)) (not (state_ok p s))) (lends g) (not (eqb (length m) (memory_length p.total))) (ltb r longest_reply)
  where
    go : (x y z u : Bool) → pick x 1 (pick y (pick z 2 (pick u 3 0)) 0) ≤ 3
    go true y z u = omega arith
    go false false z u = omega arith
    go false true true u = omega arith
    go false true false true = omega arith
    go false true false false = omega arith

pub refused-untouched : RefusedUntouched
unfolding called
refused-untouched p s m room g h = go (eqb (refused_by p s m (length room) g) 0) _ _ h
  where
    go : (q : Bool) (x y : Held) → T (not q) → pick q x y ≡ y
    go true x y h = absurd h
    go false x y h = refl

pub served_otherwise : ServedOtherwise
unfolding called
served_otherwise p s m room g h = go (eqb (refused_by p s m (length room) g) 0) _ h
  where
    r : List ℕ
    r = (step p s m g).reply

    go : (q : Bool) (y : Held) → T q → Served p s m room g (pick q (left_by p g room (step p s m g)) y)
    go true y h = record {
      unrefused = refl;
      after = refl;
      kept = refl;
      length_told = refl;
      sleep_told = refl;
      front = rw (put_front room r) (take-append_seam r (drop (length r) room));
      rest = rw (put_front room r) (drop-append_seam r (drop (length r) room));
    }
    go false y h = absurd h

pub opens_empty : OpensEmpty
unfolding taken
opens_empty s now v bad e = rw e
