-- A memory whose table is some statuses and then 00h: what the programmer's requests make of it. Assumes nothing.
use Prim.Native.Nat.{ℕ, suc, ◌+◌, ◌-◌, ◌*◌, ◌≤◌, ◌<◌, min, max}
use mathlib.Core.Path.{◌≡◌, refl, sym, ap, ◌∙◌}
use mathlib.Core.Bool.{Bool, true, false}
use mathlib.Core.List.{List, [], ◌∷◌, ◌++◌}
use native.Mathlib.Omega.{arith}
use lib.Dec.{T, eqb, leb, eqb→eq, leb→le}
use lib.ListN.{length, get_or, take, drop, set, length-append, length-set, length-drop, take-append-drop, get_or-append}
use lib.Seq.{length-take-le, take-length, take-append-le}
use Rattle.meaning.specs.Bytes.{pick, blank, put, zeros}
use Rattle.meaning.specs.Fields.{memory_length, blocks, exists, table, field_count, used, sound, status_at, clear, put_status}
use Rattle.meaning.specs.Commands.{resize}
use Rattle.meaning.proofs.Steps.{both_0, both_1}
use Rattle.meaning.proofs.Puts.{length-put, put_else, drop-put-low}
use Rattle.meaning.proofs.Rows.{put-new, put-old, put_last, shaped-size, shaped-table, shaped_else}
use Rattle.meaning.proofs.Tables.{Existing, used-cons, count_of, used_of, sound_of, count_le, count_le_used, used-before, used_snoc, used-set, used-last, existing-take, existing_snoc, existing-set, blocks_pos}

pub record Laid (t : ℕ) (m : List ℕ) (sts : List ℕ) : Type 0 where
  pub size : length m ≡ memory_length t
  pub tab : table t m ≡ sts ++ zeros (t - length sts)
  pub existing : Existing sts
  pub fit : used sts ≤ t

-- what is found in the table
module _ (t : ℕ) (m sts : List ℕ) (I : Laid t m sts) where
  pub laid_count : field_count (table t m) ≡ length sts
  laid_count = rw I.tab (count_of sts (t - length sts) I.existing)

  pub laid_used : used (table t m) ≡ used sts
  laid_used = rw I.tab (used_of sts (t - length sts) I.existing)

  pub laid_status : (f : ℕ) → f < length sts → status_at (table t m) f ≡ get_or sts f 0
  unfolding status_at
  laid_status f l = rw I.tab (get_or-append sts (zeros (t - length sts)) 0 f l)

  pub laid_first : (f : ℕ) → f ≤ length sts → used (take f (table t m)) ≡ used (take f sts)
  laid_first f l = rw I.tab (ap used (take-append-le f sts (zeros (t - length sts)) l))

  pub laid_sound : T (sound t (table t m))
  laid_sound = rw I.tab (sound_of t sts (t - length sts) I.existing I.fit)

  pub laid_few : length sts ≤ t
  laid_few = omega (arith, count_le_used sts I.existing, I.fit)

-- a sound memory is laid
existing-front : (tb : List ℕ) → Existing (take (field_count tb) tb)
unfolding field_count
existing-front [] = tt
existing-front (s ∷ r) = go (exists s) (λ h. h) (existing-front r)
  where
    go : (q : Bool) → (T q → T (exists s)) → Existing (take (field_count r) r) → Existing (take (pick q (suc (field_count r)) 0) (s ∷ r))
    go true h e = (h tt, e)
    go false h e = tt

used-front : (tb : List ℕ) → used (take (field_count tb) tb) ≡ used tb
unfolding field_count
used-front [] = refl
used-front (s ∷ r) = go (exists s) (λ h. h) refl (used-front r)
  where
    go : (q : Bool) → (T q → T (exists s)) → exists s ≡ q → used (take (field_count r) r) ≡ used r → used (take (pick q (suc (field_count r)) 0) (s ∷ r)) ≡ used (s ∷ r)
    go true h e u = used-cons s (take (field_count r) r) (h tt) ∙ ap (λ (x : ℕ). blocks s + x) u ∙ sym (used-cons s r (h tt))
    go false h e u = unfold used in rw e

blank-is : (l : List ℕ) → T (blank l) → l ≡ zeros (length l)
unfolding blank
blank-is [] h = refl
blank-is (x ∷ l) h = ap (λ (y : ℕ). y ∷ l) (eqb→eq x 0 (both_0 (eqb x 0) (blank l) h)) ∙ ap (λ (y : List ℕ). 0 ∷ y) (blank-is l (both_1 (eqb x 0) (blank l) h))

table-length : (t : ℕ) (m : List ℕ) → length m ≡ memory_length t → length (table t m) ≡ t
unfolding table
table-length t m size = length-drop (16 * t) m ∙ omega arith

pub laid_of : (t : ℕ) (m : List ℕ) → length m ≡ memory_length t → T (sound t (table t m)) → Laid t m (take (field_count (table t m)) (table t m))
unfolding sound
laid_of t m size h =
    let tb = table t m in
    let n = field_count tb in
    let b = both_0 (blank (drop n tb)) (leb (used tb) t) h in
    let k : length (take n tb) ≡ n = length-take-le n tb (count_le tb) in
    let z : length (drop n tb) ≡ t - length (take n tb) = length-drop n tb ∙ omega (arith, table-length t m size, k) in
    record {
      size = size;
      tab = sym (take-append-drop n tb) ∙ ap (λ (x : List ℕ). take n tb ++ x) (blank-is (drop n tb) b ∙ ap zeros z);
      existing = existing-front tb;
      fit = rw (used-front tb) (leb→le (used tb) t (both_1 (blank (drop n tb)) (leb (used tb) t) h));
    }

-- the last field goes
module _ (t : ℕ) (m sts : List ℕ) (I : Laid t m sts) (f : ℕ) (last : suc f ≡ length sts) where
  ends : used sts ≡ used (take f sts) + blocks (get_or sts f 0)
  ends = used-last sts f I.existing last

  row : f < t
  row = omega (arith, laid_few t m sts I)

  fewer : length (take f sts) ≡ f
  fewer = length-take-le f sts (omega arith)

  pub laid_gone : Laid t (put_status t (clear m (used (take f sts)) (blocks (get_or sts f 0))) f 0) (take f sts)
  laid_gone =
      let after_replies : used (take f sts) + blocks (get_or sts f 0) ≤ t = omega (arith, ends, I.fit) in
      let e : t - f ≡ suc (t - length sts) = omega (arith, row) in
      record {
        size = shaped-size t m I.size (used (take f sts)) (blocks (get_or sts f 0)) after_replies f row 0;
        tab = shaped-table t m I.size (used (take f sts)) (blocks (get_or sts f 0)) after_replies f row 0 ∙ rw (I.tab, fewer, e) (put_last sts (t - length sts) f last);
        existing = existing-take f sts I.existing;
        fit = omega (arith, after_replies);
      }

-- a field comes
module _ (t : ℕ) (m sts : List ℕ) (I : Laid t m sts) (st : ℕ) (ex : T (exists st)) (room : used sts + blocks st ≤ t) where
  next_row : length sts < t
  next_row = omega (arith, count_le_used sts I.existing, blocks_pos st)

  abbrev pub created : List ℕ
  created = put_status t (clear m (used sts) (blocks st)) (length sts) st

  pub laid_made : Laid t created (sts ++ (st ∷ []))
  laid_made =
      let more : length (sts ++ (st ∷ [])) ≡ length sts + 1 = length-append sts (st ∷ []) in
      let e : t - length sts ≡ suc (t - length (sts ++ (st ∷ []))) = omega (arith, next_row, more) in
      record {
        size = shaped-size t m I.size (used sts) (blocks st) room (length sts) next_row st;
        tab = shaped-table t m I.size (used sts) (blocks st) room (length sts) next_row st
            ∙ rw (I.tab, e) (put-new sts (t - length (sts ++ (st ∷ []))) st);
        existing = existing_snoc sts st I.existing ex;
        fit = rw (used_snoc sts st I.existing ex) room;
      }

  -- the fields before it keep their bytes
  pub made_low : (j : ℕ) → j < 16 * used sts → get_or created j 0 ≡ get_or m j 0
  made_low j h = shaped_else t m I.size (used sts) (blocks st) room (length sts) next_row st j (omega (arith, I.fit)) (λ w. omega arith)

-- bytes are stored inside the fields
module _ (t : ℕ) (m sts : List ℕ) (I : Laid t m sts) (at : ℕ) (bs : List ℕ) (inside : at + length bs ≤ 16 * used sts) where
  store_fits : at + length bs ≤ length m
  store_fits = omega (arith, I.size, I.fit)

  pub laid_stored : Laid t (put m at bs) sts
  unfolding table
  laid_stored = record {
    size = length-put m at bs store_fits ∙ I.size;
    tab = drop-put-low m at bs store_fits (16 * t) (omega (arith, I.fit)) ∙ I.tab;
    existing = I.existing;
    fit = I.fit;
  }

  pub stored_low : (j : ℕ) → j < at → get_or (put m at bs) j 0 ≡ get_or m j 0
  stored_low j h = put_else m at bs store_fits j (λ w. omega arith)

-- a status is changed, and its size stays
module _ (t : ℕ) (m sts : List ℕ) (I : Laid t m sts) (f st : ℕ) (there : f < length sts) (ex : T (exists st)) (same : blocks st ≡ blocks (get_or sts f 0)) where
  abbrev b : ℕ
  b = used (take f sts) + min (blocks (get_or sts f 0)) (blocks st)

  abbrev n : ℕ
  n = max (blocks (get_or sts f 0)) (blocks st) - min (blocks (get_or sts f 0)) (blocks st)

  abbrev pub relaid : List ℕ
  relaid = put_status t (resize m (used (take f sts)) (blocks (get_or sts f 0)) (blocks st)) f st

  inside : used (take f sts) + blocks (get_or sts f 0) ≤ used sts
  inside = rw take-length at (used-before sts f (length sts) I.existing there (omega arith))

  after_replies : b + n ≤ t
  after_replies = omega (arith, inside, I.fit)

  old_row : f < t
  old_row = omega (arith, laid_few t m sts I)

  pub laid_set : Laid t relaid (set sts f st)
  unfolding resize
  laid_set = record {
    size = shaped-size t m I.size b n after_replies f old_row st;
    tab = shaped-table t m I.size b n after_replies f old_row st ∙ rw (I.tab, length-set) (put-old sts (zeros (t - length sts)) f st there);
    existing = existing-set sts f st I.existing ex;
    fit = omega (arith, used-set sts f st I.existing ex there, I.fit);
  }

  pub relaid_data : (j : ℕ) → j < 16 * t → get_or relaid j 0 ≡ get_or m j 0
  unfolding resize
  relaid_data j h = shaped_else t m I.size b n after_replies f old_row st j h (λ w. omega arith)
