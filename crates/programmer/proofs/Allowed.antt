-- Each request that is due is one that the bench writes (R5 is not met on the way). Assumes nothing.
use Prim.Native.Nat.{ℕ, ◌+◌, ◌≤◌, ◌<◌}
use mathlib.Core.Bool.{true}
use mathlib.Core.List.{List, [], ◌∷◌}
use native.Mathlib.Omega.{arith}
use lib.Dec.{T, eqb, leb, ltb→lt, le→leb}
use lib.ListN.{length}
use Rattle.meaning.specs.Bytes.{both}
use Rattle.meaning.specs.Fields.{blocks}
use Rattle.meaning.specs.Commands.{c4a, c4b, command_of, row, length_fits, asked}
use Rattle.meaning.specs.Bench.{in_range, allowed}
use Rattle.meaning.proofs.Cases.{eq→eqb}
use Rattle.meaning.proofs.Choices.{both_intro}
use Rattle.programmer.specs.Wishes.{Wish, wanted, code_for}
use Rattle.programmer.specs.Steps.{due}
use Rattle.programmer.specs.Running.{reachable}
use Rattle.programmer.specs.Promises.{FieldsFit}
use Rattle.programmer.proofs.Reading.{fits-at, few_bytes}
use Rattle.programmer.specs.declared.step.Step.{Step}
use Rattle.programmer.specs.declared.step.Step.TheVariants.{Count, Look, Remove, Create, Store, Read, Lock}

-- R5: what is stored and read back is allowed
pub may_store : (i c : ℕ) (bs : List ℕ) → 1 ≤ length bs → length bs ≤ 128 → T (allowed c4b (i ∷ 0 ∷ length bs ∷ c ∷ bs))
unfolding allowed asked row length_fits in_range
may_store i c bs h k =
    let n : ℕ = length (i ∷ 0 ∷ length bs ∷ c ∷ bs) in
    both_intro (both (leb 5 n) (both (leb n 132) (eqb n (4 + length bs)))) true
    (both_intro (leb 5 n) (both (leb n 132) (eqb n (4 + length bs))) (le→leb 5 n (omega arith))
    (both_intro (leb n 132) (eqb n (4 + length bs)) (le→leb n 132 (omega arith)) (eq→eqb n (4 + length bs) (omega arith)))) tt

pub may_read : (i c k : ℕ) → 1 ≤ k → k ≤ 128 → T (allowed c4a (i ∷ 0 ∷ k ∷ c ∷ []))
unfolding allowed asked row length_fits in_range
may_read i c k h u = both_intro (leb 1 k) (leb k 128) (le→leb 1 k h) (le→leb k 128 u)

some_bytes : (l : Wish) (i : ℕ) → FieldsFit l.fields → i < length l.fields → 1 ≤ length (wanted l i).bytes
unfolding blocks
some_bytes l i F h = omega (arith, fits-at l.fields i F h)

pub due-allowed : (l : Wish) (p : ℕ) (st : Step) → FieldsFit l.fields → T (reachable l p st) → T (allowed (command_of (due l st).command) (due l st).body)
unfolding due command_of allowed asked row length_fits in_range
due-allowed l p Count F h = tt
due-allowed l p (Look k) F h = tt
due-allowed l p (Remove k st) F h = tt
due-allowed l p (Create i) F h = tt
due-allowed l p (Store i) F h = may_store i (code_for l (wanted l i).status) (wanted l i).bytes (some_bytes l i F (ltb→lt i (length l.fields) h)) (few_bytes l i F (ltb→lt i (length l.fields) h))
due-allowed l p (Read i) F h = may_read i (code_for l (wanted l i).status) (length (wanted l i).bytes) (some_bytes l i F (ltb→lt i (length l.fields) h)) (few_bytes l i F (ltb→lt i (length l.fields) h))
due-allowed l p (Lock i) F h = tt
