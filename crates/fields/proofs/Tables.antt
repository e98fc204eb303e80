-- Laws of any status table, sound or not: how a walk that halts and goes on adds up, and where the fields of a sound one lie. Assumes nothing.
use Prim.Native.Nat.{ℕ, zero, suc, ◌+◌, ◌-◌, ◌*◌, ◌≤◌}
use mathlib.Core.Bool.{Bool, true, false, ◌&&◌}
use mathlib.Core.Path.{◌≡◌, refl, sym, ap, subst, ◌∙◌}
use mathlib.Core.List.{List, [], ◌∷◌}
use native.Mathlib.Omega.{arith}
use lib.ListN.{length, take, drop, length-take, length-drop}
use lib.Dec.{leb}
use borrow.Author.Tests.{leb-true}
use Rattle.fields.specs.Memory.{CountedOn, Sits, Sized}
use Rattle.fields.specs.declared.table.Tally.{Tally}
use Rattle.meaning.specs.Bytes.{both, blank}
use Rattle.meaning.specs.Fields.{bytes_of, blocks, exists, field_count, used, sound, table, free_blocks, status_at, Survey, survey}
use Rattle.meaning.proofs.Choices.{both_right, and_both}
use Rattle.meaning.proofs.Wire.{within}
use Rattle.meaning.proofs.Tables.{used-nil, count_le}
use Rattle.fields.proofs.Walk.{rest-is}

module _ (s : ℕ) (r : List ℕ) where
  count_yes : exists s ≡ true → field_count (s ∷ r) ≡ suc (field_count r)
  unfolding field_count
  count_yes e = rw e

  count_no : exists s ≡ false → field_count (s ∷ r) ≡ 0
  unfolding field_count
  count_no e = rw e

  used_yes : exists s ≡ true → used (s ∷ r) ≡ blocks s + used r
  unfolding used
  used_yes e = rw e

  used_no : exists s ≡ false → used (s ∷ r) ≡ 0
  unfolding used
  used_no e = rw e

count-nil : field_count [] ≡ 0
unfolding field_count
count-nil = refl

pub blocks_most : (s : ℕ) → blocks s ≤ 8
unfolding blocks
blocks_most s = omega arith

-- and at most eight blocks to a field
pub used_most : (l : List ℕ) → used l ≤ 8 * field_count l
used_most [] = omega (arith, used-nil)
used_most (s ∷ r) = go (exists s) refl (used_most r)
  where
    go : (b : Bool) → exists s ≡ b → used r ≤ 8 * field_count r → used (s ∷ r) ≤ 8 * field_count (s ∷ r)
    go true e h = omega (arith, used_yes s r e, count_yes s r e, blocks_most s)
    go false e h = omega (arith, used_no s r e)

-- a walk that halts before field f and goes on where it halted passes all fields
pub count_halt : (l : List ℕ) (f : ℕ) → field_count l ≡ field_count (take f l) + field_count (drop (field_count (take f l)) l)
count_halt l zero = rw count-nil (omega arith)
count_halt [] (suc f) = rw count-nil (omega (arith, count-nil))
count_halt (s ∷ r) (suc f) = go (exists s) refl (count_halt r f)
  where
    go : (b : Bool) → exists s ≡ b → field_count r ≡ field_count (take f r) + field_count (drop (field_count (take f r)) r)
        → field_count (s ∷ r) ≡ field_count (s ∷ take f r) + field_count (drop (field_count (s ∷ take f r)) (s ∷ r))
    go true e h = rw (count_yes s r e, count_yes s (take f r) e) (omega arith)
    go false e h = rw (count_no s (take f r) e) (omega arith)

-- .. and all their blocks
pub used_halt : (l : List ℕ) (f : ℕ) → used l ≡ used (take f l) + used (drop (field_count (take f l)) l)
used_halt l zero = rw (count-nil, used-nil) (omega arith)
used_halt [] (suc f) = rw count-nil (omega (arith, used-nil))
used_halt (s ∷ r) (suc f) = go (exists s) refl (used_halt r f)
  where
    go : (b : Bool) → exists s ≡ b → used r ≡ used (take f r) + used (drop (field_count (take f r)) r)
        → used (s ∷ r) ≡ used (s ∷ take f r) + used (drop (field_count (s ∷ take f r)) (s ∷ r))
    go true e h = rw (count_yes s (take f r) e, used_yes s r e, used_yes s (take f r) e) (omega arith)
    go false e h = rw (count_no s (take f r) e, used_no s (take f r) e) (omega arith)

-- the walk that halts before field f, counted from none
pub halted_at : (l front : List ℕ) (f : ℕ) (r : Tally) → front ≡ take f l → CountedOn front (record { fields = 0; blocks = 0 }) r
    → (r.fields ≡ field_count (take f l)) × (r.blocks ≡ used (take f l))
halted_at l front f r e k = (omega (arith, k.fields, ap field_count e), omega (arith, k.blocks, ap used e))

-- a walk that came to n fields of b blocks before field f, and went on from there
module _ (l : List ℕ) (f n b : ℕ) (first : n ≡ field_count (take f l)) where
  pub walk_fields : (all : ℕ) → all ≡ n + field_count (drop n l) → all ≡ field_count l
  walk_fields all e = e ∙ rw first (sym (count_halt l f))

  pub walk_used : b ≡ used (take f l) → (all : ℕ) → all ≡ b + used (drop n l) → all ≡ used l
  walk_used start all e = e ∙ rw (start, first) (sym (used_halt l f))

-- what it finds is the survey
pub survey-is : (t f : ℕ) (m l : List ℕ) → table t m ≡ l → (trusted blank-rest : Bool) (n u free first status : ℕ)
    → n ≡ field_count l → u ≡ used l → blank-rest ≡ blank (drop n l) → trusted ≡ blank-rest && leb u t → free ≡ t - u → first ≡ used (take f l) → status ≡ status_at l f
    → ◌≡◌ {A = Survey} (record { trusted = trusted; fields = n; free = free; first = first; status = status }) (survey t m f)
unfolding survey sound free_blocks
survey-is t f m l e trusted blank-rest n u free first status p q z s r i k =
    let y : trusted ≡ both blank-rest (leb u t) = s ∙ and_both blank-rest (leb u t) in
    rw (e, ← p, ← q, ← z, ← y, ← r, ← i, ← k)

pub blocks-some : (s : ℕ) → 1 ≤ blocks s
unfolding blocks
blocks-some s = omega arith

-- each field has a block
count_le_used : (l : List ℕ) → field_count l ≤ used l
count_le_used [] = omega (arith, count-nil)
count_le_used (s ∷ r) = go (exists s) refl (count_le_used r)
  where
    go : (b : Bool) → exists s ≡ b → field_count r ≤ used r → field_count (s ∷ r) ≤ used (s ∷ r)
    go true e h = omega (arith, count_yes s r e, used_yes s r e, blocks-some s)
    go false e h = omega (arith, count_no s r e)

sound-fits : (t : ℕ) (l : List ℕ) → sound t l ≡ true → used l ≤ t
unfolding sound
sound-fits t l e = leb-true _ _ (both_right (blank (drop (field_count l) l)) (leb (used l) t) e)

sits_in : (t : ℕ) (m : List ℕ) (f : ℕ) → (survey t m f).trusted ≡ true → Sits t (survey t m f) f
unfolding survey free_blocks status_at
sits_in t m f e =
    let l = table t m in
    let u = sound-fits t l e in
    record { room = omega (arith, count_le_used l); own = λ h. omega (arith, within l f h) }

-- where the fields of a sound table lie
pub sits : (t : ℕ) (m : List ℕ) (f : ℕ) (v : Survey) → v ≡ survey t m f → v.trusted ≡ true → Sits t v f
sits t m f v e = subst (λ (w : Survey). w.trusted ≡ true → Sits t w f) (sym e) (sits_in t m f)

-- what a survey finds is no more than there are blocks
free_in : (t : ℕ) (m : List ℕ) (f : ℕ) → (survey t m f).free ≤ t
unfolding survey free_blocks
free_in t m f = omega arith

pub free_le : (t : ℕ) (m : List ℕ) (f : ℕ) (v : Survey) → v ≡ survey t m f → v.free ≤ t
free_le t m f v e = subst (λ (w : Survey). w.free ≤ t) (sym e) (free_in t m f)

-- .. and no more than a command's numbers hold, in a memory of at most 112 blocks
module _ (t : ℕ) (m : List ℕ) (fit : Sized t m) where
  table-length : length (table t m) ≡ t
  unfolding table
  table-length = simp length-drop (omega (arith, fit.long))

  -- `&m[16t..17t]` is the table
  pub table_is : (from to : ℕ) → from ≡ bytes_of t → to ≡ from + t → table t m ≡ take (to - from) (drop from m)
  unfolding table
  table_is from to p q =
      let k : to - from ≡ length m - from = omega (arith, fit.long) in
      ap (λ (a : ℕ). drop a m) (sym p) ∙ sym (ap (λ (n : ℕ). take n (drop from m)) k ∙ rest-is m from)

  first_in : (f : ℕ) → (survey t m f).first ≤ 65535
  unfolding survey
  first_in f =
      let l = take f (table t m) in
      omega (arith, used_most l, count_le l, length-take f (table t m), table-length, fit.few)

  fields_in : (f : ℕ) → (survey t m f).fields ≤ 255
  unfolding survey
  fields_in f = omega (arith, count_le (table t m), table-length, fit.few)

  module _ (f : ℕ) (v : Survey) (e : v ≡ survey t m f) where
    pub first-few : v.first ≤ 65535
    first-few = subst (λ (w : Survey). w.first ≤ 65535) (sym e) (first_in f)

    pub free_few : v.free ≤ 255
    free_few = omega (arith, free_le t m f v e, fit.few)

    pub fields-few : v.fields ≤ 255
    fields-few = subst (λ (w : Survey). w.fields ≤ 255) (sym e) (fields_in f)
