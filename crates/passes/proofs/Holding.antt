-- What the lent bytes hold after one record, and after a pass. Assumes nothing.
use Prim.Native.Nat.{ℕ, zero, suc, ◌+◌, ◌-◌, ◌≤◌, ◌<◌}
use mathlib.Core.Path.{◌≡◌, refl, ap}
use mathlib.Core.Bool.{true, false}
use mathlib.Core.List.{List, [], ◌∷◌}
use native.Mathlib.Omega.{arith}
use lib.ListN.{length, drop, length-drop}
use lib.Dec.{ltb}
use borrow.Author.Tests.{lt-ltb, le-ltb}
use Rattle.meaning.specs.Bytes.{pick}
use Rattle.records.specs.Records.{whole_length}
use Rattle.tape.specs.Kinds.{Said}
use Rattle.tape.specs.Answers.{Stage, turn}
use Rattle.records.specs.Reader.{read_at}
use Rattle.tape.specs.Passes.{NextRecord, incomplete, says, next_record, next_record_by, longest_line, on_next_record}
use Rattle.turns.specs.Turns.{is_ended}
use Rattle.passes.specs.Holding.{LentState, lent_state, lent_after, lent_by}

pub held_parts : {v v' : Stage} {kept kept' w w' : List ℕ} → v ≡ v' → kept ≡ kept' → w ≡ w' → lent_state v kept w ≡ lent_state v' kept' w'
held_parts i j k = rw (i, j, k)

module _ (n space at : ℕ) (t : List ℕ) (h : LentState) where
  pub held-full : space < longest_line → lent_by (suc n) space at t h ≡ h
  unfolding lent_by
  held-full i = rw (lt-ltb space longest_line i)

  pub held_more : longest_line ≤ space → next_record t ≡ incomplete → lent_by (suc n) space at t h ≡ h
  unfolding lent_by on_next_record
  held_more i e = rw (le-ltb space longest_line i, e)

  module _ (x : Said) (i : longest_line ≤ space) (e : next_record t ≡ says x) where
    pub held-bad : is_ended (turn h.stage at x).stage ≡ true → lent_by (suc n) space at t h ≡ lent_after h at x
    unfolding lent_by on_next_record
    held-bad k = rw (le-ltb space longest_line i, e, k)

    pub held-good : is_ended (turn h.stage at x).stage ≡ false
        → lent_by (suc n) space at t h ≡ lent_by n (space - length (turn h.stage at x).printed) (at + whole_length t) (drop (whole_length t) t) (lent_after h at x)
    unfolding lent_by on_next_record
    held-good k = rw (le-ltb space longest_line i, e, k)

-- the bound on the records does not matter
pub held_enough : (n m space at : ℕ) (t : List ℕ) (h : LentState) → length t < n → length t < m → lent_by n space at t h ≡ lent_by m space at t h
unfolding lent_by on_next_record read_at next_record_by
held_enough zero m space at t h i j = absurd (omega arith)
held_enough (suc n) zero space at t h i j = absurd (omega arith)
held_enough (suc n) (suc m) space at [] h i j = refl
held_enough (suc n) (suc m) space at (b ∷ t) h i j =
    let k = whole_length (b ∷ t) in
    let u = drop k (b ∷ t) in
    let short : length u < length (b ∷ t) = omega (arith, length-drop k (b ∷ t)) in
    ap (λ (y : LentState). pick (ltb space longest_line) h y)
    (go (next_record (b ∷ t)) (λ x. held_enough n m (space - length (turn h.stage at x).printed) (at + k) u (lent_after h at x) (omega (arith, short)) (omega (arith, short))))
  where
    go : {f g : Said → LentState} (r : NextRecord) → ((x : Said) → f x ≡ g x)
        → on_next_record r h (λ x. pick (is_ended (turn h.stage at x).stage) (lent_after h at x) (f x)) ≡ on_next_record r h (λ x. pick (is_ended (turn h.stage at x).stage) (lent_after h at x) (g x))
    go incomplete same = refl
    go (says x) same = ap (λ (y : LentState). pick (is_ended (turn h.stage at x).stage) (lent_after h at x) y) (same x)
