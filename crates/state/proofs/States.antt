-- The state's parts and limits. Assumes nothing.
use Prim.Native.Nat.{ℕ, ◌+◌, ◌^◌, ◌≤◌}
use native.Mathlib.Omega.{arith}
use mathlib.Core.Path.{◌≡◌, refl, sym, ap, ◌∙◌}
use mathlib.Core.Bool.{Bool, true, false}
use mathlib.Core.List.{List, [], ◌∷◌}
use borrow.Author.Tests.{le-leb, eq-eqb}
use lib.Dec.{eqb, leb, ltb}
use lib.ListN.{length}
use Rattle.meaning.specs.Bytes.{pick, both}
use Rattle.meaning.specs.State as meaning
use Rattle.meaning.specs.State.{Plate, Line, none, apart, state_ok, with_lock, with_queue, with_line, noted, powered_on}
use Rattle.state.specs.declared.faults.Faults.{Faults}
use Rattle.state.specs.declared.state.State.{State}
use Rattle.state.specs.Queue.{waiting, queue_of, no_faults, holding}
use Rattle.state.specs.State.{state_with}
use Rattle.meaning.proofs.Choices.{both_true, both_false}

holds-own : (s : State) (l : Line) → holding (state_with s l) s.faults ≡ state_with s l
unfolding holding with_lock with_queue
holds-own s l = refl

-- 01, "The host notes codes", on the whole state
pub notes : (s : State) (c : ℕ) (l : Line) (f : Faults) (r : State) → state_with r l ≡ holding (state_with s l) f
    → holding (state_with s l) f ≡ noted (holding (state_with s l) s.faults) c → state_with r l ≡ noted (state_with s l) c
notes s c l f r e k = e ∙ k ∙ ap (λ (x : meaning.State). noted x c) (holds-own s l)

pub powers_on : (s : State) (l : Line) {f : Faults} (r : State) → state_with r none ≡ holding (state_with s none) f → f ≡ no_faults
    → state_with r none ≡ powered_on (state_with s l)
unfolding powered_on holding with_lock with_queue with_line queue_of waiting
powers_on s l r e k = rw k at e

-- one place holds one code at most
longer_by_one : (c n : ℕ) (q : List ℕ) → length q ≤ n → length (waiting c q) ≤ n + 1
unfolding waiting
longer_by_one c n [] h = go (eqb c 0)
  where
    go : (t : Bool) → length (pick t [] (c ∷ [])) ≤ n + 1
    go true = omega arith
    go false = omega arith
longer_by_one c n (x ∷ q) h = omega arith

pub at_most_four : (f : Faults) → length (queue_of f) ≤ 4
unfolding queue_of
at_most_four f =
    longer_by_one f.first 3 _ (longer_by_one f.second 2 _ (longer_by_one f.third 1 _ (longer_by_one f.fourth 0 [] (omega arith))))

-- the address is tested earlier than the definition tells it
moved : (a x b c : Bool) → both a (both x (both b c)) ≡ both a (both b (both c x))
moved false x b c = refl
moved true true b c = ap (both b) (sym (both_true c))
moved true false true c = sym (both_false c)
moved true false false c = refl

-- 01, "State limits"
pub within : (s : State) (p : Plate) (l : Line) {t : Bool} → length s.codes ≡ 4 → length l.kept ≤ 135
    → both (leb s.counter 0xFFFFFF) (both (leb s.address 31) (both (ltb s.offset (2 ^ p.bits)) (apart (queue_of s.faults)))) ≡ t
    → t ≡ state_ok p (state_with s l)
unfolding state_ok
within s p l four few e =
    rw (le-leb (length (queue_of s.faults)) 4 (at_most_four s.faults), le-leb (length l.kept) 135 few, eq-eqb (length s.codes) 4 four)
    (sym e ∙ moved (leb s.counter 0xFFFFFF) (leb s.address 31) (ltb s.offset (2 ^ p.bits)) (apart (queue_of s.faults)))
