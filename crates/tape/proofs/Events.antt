-- What a body says, kind by kind. Assumes nothing.
use Prim.Native.Nat.{ℕ, ◌≤◌, ◌<◌}
use mathlib.Core.Path.{◌≡◌, refl, sym, ap, subst, ◌∙◌}
use mathlib.Core.Bool.{Bool, true, false}
use mathlib.Core.List.{List, [], ◌∷◌}
use native.Mathlib.Omega.{arith}
use lib.ListN.{length, get_or, take}
use lib.Seq.{take_all}
use lib.Dec.{eqb, leb}
use borrow.Author.Tests.{eqb-true, eq-eqb, ne_eqb, lt-leb, le-leb}
use Rattle.std.specs.Prelude.{Result, Ok, Err, Option, None, Some}
use Rattle.std.specs.Int.{w32, from_le_bytes}
use Rattle.meaning.specs.Bytes.{pick, arg, little, zeros}
use Rattle.meaning.specs.State.{Plate, label_length}
use Rattle.meaning.specs.Run.{character}
use Rattle.tape.specs.Kinds.{Said, plate, call, unfit, character_in, sized, call_of}
use Rattle.tape.specs.Reader.{number_of}
use Rattle.records.specs.Reader.{Whole, read_at}
use Rattle.tape.specs.Passes.{NextRecord, incomplete, says, longest_record, next_record_by, next_record}
use Rattle.records.specs.declared.record.Unread.{Unread}
use Rattle.records.specs.declared.record.Unread.TheVariants.{More, Bad}

-- four bytes, the low one first
front_four : (b : List ℕ) → 4 ≤ length b → little (take 4 b) ≡ from_le_bytes w32 (get_or b 0 0 ∷ get_or b 1 0 ∷ get_or b 2 0 ∷ get_or b 3 0 ∷ [])
unfolding little
front_four (w ∷ x ∷ y ∷ z ∷ b) h = omega arith
front_four [] h = absurd (omega arith)
front_four (w ∷ []) h = absurd (omega arith)
front_four (w ∷ x ∷ []) h = absurd (omega arith)
front_four (w ∷ x ∷ y ∷ []) h = absurd (omega arith)

four : (b : List ℕ) → length b ≡ 4 → little b ≡ from_le_bytes w32 (get_or b 0 0 ∷ get_or b 1 0 ∷ get_or b 2 0 ∷ get_or b 3 0 ∷ [])
four b h = ap little (sym (take_all 4 b (omega arith))) ∙ front_four b (omega arith)

module _ (b : List ℕ) where
  pub unfitted : (k : ℕ) (x : Said) → (length b ≡ k → ⊥) → unfit ≡ sized k b x
  unfolding sized
  unfitted k x h = rw (ne_eqb (length b) k h)

  pub fitted : (k : ℕ) (x : Said) → length b ≡ k → x ≡ sized k b x
  unfolding sized
  fitted k x h = rw (eq-eqb (length b) k h)

  pub character-unfit : length b ≡ 6 → 1 < get_or b 5 0 → unfit ≡ sized 6 b (character_in b)
  unfolding character_in
  character-unfit h k = sym (rw (lt-leb (get_or b 5 0) 1 k)) ∙ fitted 6 (character_in b) h

  pub character-said : length b ≡ 6 → get_or b 5 0 ≤ 1
      → call (character (from_le_bytes w32 (get_or b 0 0 ∷ get_or b 1 0 ∷ get_or b 2 0 ∷ get_or b 3 0 ∷ [])) (get_or b 4 0) (eqb (get_or b 5 0) 1)) ≡ sized 6 b (character_in b)
  unfolding character_in
  character-said h k = sym (rw (le-leb (get_or b 5 0) 1 k, front_four b (omega arith))) ∙ fitted 6 (character_in b) h

  pub unnumbered : (length b ≡ 4 → ⊥) → None ≡ number_of b
  unfolding number_of
  unnumbered h = rw (ne_eqb (length b) 4 h)

  pub numbered : length b ≡ 4 → Some (from_le_bytes w32 (get_or b 0 0 ∷ get_or b 1 0 ∷ get_or b 2 0 ∷ get_or b 3 0 ∷ [])) ≡ number_of b
  unfolding number_of
  numbered h = rw (eq-eqb (length b) 4 h, four b h)

  -- a number that was read is that of four bytes, and where none was read there are not four
  number-read : (n : ℕ) → number_of b ≡ Some n → (length b ≡ 4) × (n ≡ little b)
  unfolding number_of
  number-read n = go (eqb (length b) 4) refl
    where
      go : (q : Bool) → eqb (length b) 4 ≡ q → pick q (Some (little b)) None ≡ Some n → (length b ≡ 4) × (n ≡ little b)
      go true h e = (eqb-true (length b) 4 h, cc)
      go false h e = let z : ◌≡◌ {A = ℕ} 0 1 = cc in absurd (omega arith)

  number-unread : number_of b ≡ None → length b ≡ 4 → ⊥
  unfolding number_of
  number-unread e h = let k : ◌≡◌ {A = Option ℕ} (Some (little b)) None = rw (eq-eqb (length b) 4 h) at e in let z : ◌≡◌ {A = ℕ} 0 1 = cc in absurd (omega arith)

  pub number-said : (n : ℕ) (f : ℕ → Said) → number_of b ≡ Some n → f n ≡ sized 4 b (f (little b))
  number-said n f e = let (h, k) = number-read n e in ap f k ∙ fitted 4 (f (little b)) h

  pub number-unsaid : (x : Said) → number_of b ≡ None → unfit ≡ sized 4 b x
  number-unsaid x e = unfitted 4 x (number-unread e)

-- what the functions of each kind cite
pub ruleset kinds_read = (unfitted, fitted, character-unfit, character-said, unnumbered, numbered)

-- 02, Req 01, "on the tape they are all zero": the label bytes of every plate that a record says
abbrev Unlabelled : Said → Type 0
Unlabelled (plate p) = p.label ≡ zeros label_length
Unlabelled (call g) = Unit
Unlabelled unfit = Unit

picked : (P : Said → Type 0) (q : Bool) {x y : Said} → P x → P y → P (pick q x y)
picked P true a b = a
picked P false a b = b

said_unlabelled : (k : ℕ) (b : List ℕ) → Unlabelled (call_of k b)
unfolding call_of sized character_in
said_unlabelled k b =
    picked Unlabelled (eqb k 1) (picked Unlabelled (eqb (length b) 5) refl tt)
    (picked Unlabelled (eqb k 2) (picked Unlabelled (eqb (length b) 6) (picked Unlabelled (leb (arg b 5) 1) tt tt) tt)
    (picked Unlabelled (eqb k 3) (picked Unlabelled (eqb (length b) 4) tt tt)
    (picked Unlabelled (eqb k 4) (picked Unlabelled (eqb (length b) 4) tt tt)
    (picked Unlabelled (eqb k 5) (picked Unlabelled (eqb (length b) 1) tt tt)
    (picked Unlabelled (eqb k 6) (picked Unlabelled (eqb (length b) 0) tt tt) tt)))))

abbrev UnlabelledNext : NextRecord → Type 0
UnlabelledNext incomplete = Unit
UnlabelledNext (says x) = Unlabelled x

read_unlabelled : (r : Result Whole Unread) → UnlabelledNext (next_record_by r)
unfolding next_record_by
read_unlabelled (Ok w) = said_unlabelled w.kind w.body
read_unlabelled (Err More) = tt
read_unlabelled (Err Bad) = tt

pub no_label : (t : List ℕ) (p : Plate) → next_record t ≡ says (plate p) → p.label ≡ zeros label_length
no_label t p e = subst UnlabelledNext e (read_unlabelled (read_at longest_record 0 t))
