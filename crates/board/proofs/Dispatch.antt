-- Each command by its row: what it asks, and what it leaves as it was. Assumes nothing.
use Prim.Native.Nat.{ℕ, ◌≤◌}
use native.Mathlib.Omega.{arith}
use mathlib.Core.Path.{◌≡◌, refl, sym, ap, subst, ◌∙◌}
use mathlib.Core.Bool.{Bool, true, false, false≢true}
use mathlib.Core.List.{List}
use borrow.Author.Tests.{eqb-true, ne_eqb, leb-true}
use lib.Dec.{eqb, leb}
use lib.ListN.{length}
use Rattle.meaning.specs.Bytes.{pick, either, arg}
use Rattle.meaning.specs.Fields.{survey}
use Rattle.meaning.specs.State as meaning
use Rattle.meaning.specs.State.{none}
use Rattle.meaning.specs.Commands as commands
use Rattle.meaning.specs.Commands.{Command, c42, c43, c46, c47, c49, c4a, c4b, c4c, c4d, c4f, c50, c52, c53, c55, c56, unknown, command_of, asked, row, length_fits, error, choose, on_field}
use Rattle.meaning.specs.Commands.{read_position, set_position, read_counter, step_counter, clear_counter, read_field, store_field, field_status, shape_field, memory_status, set_code, read_fault, read_label, reset, set_address, read_version, worked}
use Rattle.meaning.proofs.Choices.{both_left, both_right, shaped_by}
use Rattle.std.specs.Prelude.{Result}
use Rattle.wire.specs.declared.codes.ErrorCode.{ErrorCode}
use Rattle.wire.specs.Answers.{ToldAnswer, memory_after, state_after, Works}
use Rattle.fields.specs.declared.seen.Survey.{Survey}
use Rattle.fields.specs.Memory.{Sized, Lent, Saw, survey_of}
use Rattle.fields.specs.Replies.{Asked, Looked, Tellable, Countable}
use Rattle.fields.proofs.Gives.{looked, tellable, countable}
use Rattle.line.specs.declared.plate.Plate.{Plate}
use Rattle.line.specs.Line.{plate_of}
use Rattle.meaning.proofs.Plates.{total-fits, few_bits, whole-label}
use Rattle.state.specs.declared.state.State.{State}
use Rattle.state.specs.declared.rows.Worked.{Worked}
use Rattle.state.specs.Rows.{Answers}
use Rattle.board.specs.Work.{Workable, MemoryLent, Changeable, WorksOn, on_memory, Tells}
use Rattle.board.proofs.Endings.{unknown_never}

-- what the rows ask
module _ (c : ℕ) (d : List ℕ) (h : asked (command_of c) d ≡ true) where
  exact : (n : ℕ) {k : Command} → command_of c ≡ k → ((x : List ℕ) → asked k x ≡ eqb (length x) n) → length d ≡ n
  exact n e f = eqb-true (length d) n (sym (f d) ∙ rw e at h)

  pub five : c ≡ 0x43 → length d ≡ 5
  unfolding command_of asked row length_fits
  five e = exact 5 {k = c43} (rw e) (λ x. refl)

  pub two : c ≡ 0x55 → length d ≡ 2
  unfolding command_of asked row length_fits
  two e = exact 2 {k = c55} (rw e) (λ x. refl)

  pub three : c ≡ 0x4F → length d ≡ 3
  unfolding command_of asked row length_fits
  three e = exact 3 {k = c4f} (rw e) (λ x. refl)

module _ (p : Plate) (label : List ℕ) (s : State) {c : ℕ} (d m w : List ℕ) (h : Workable p label s c d m w) where
  pub changeable : on_memory c ≡ false → Changeable p.bits label s c d w
  changeable e =
      record {
        bits = few_bits (plate_of p label) h.plate;
        label_bytes = whole-label (plate_of p label) h.plate;
        counter = h.counter;
        room = h.room;
        fits = h.fits;
        alone = e;
      }

  pub memory-lent : (codes : List ℕ) → length codes ≡ 4 → on_memory c ≡ true → MemoryLent p.total codes c d m w
  memory-lent codes k e = record { few = total-fits (plate_of p label) h.plate; size = h.size; room = h.room; codes = k; fits = h.fits; memory = e }

-- what the rows on the memory ask, once the table is surveyed for the field that the request names
module _ {t c : ℕ} (codes d m w : List ℕ) (h : MemoryLent t codes c d m w) where
  pub sized : Sized t m
  sized = record { few = h.few; long = h.size }

  lent : Lent t m w
  lent = record { fit = sized; room = h.room }

  asks : {k : Command} → command_of c ≡ k → Asked k t m d w
  asks e = record { lent = lent; wanted = rw e at h.fits }

  module _ (v : Survey) {f : ℕ} (named : f ≡ arg d 0) (saw : Saw t m f v) where
    saw_named : Saw t m (arg d 0) v
    saw_named = subst (λ (n : ℕ). Saw t m n v) named saw

    pub looked_4a : c ≡ 0x4A → Looked c4a v codes m d w
    unfolding command_of
    looked_4a e = looked saw_named (asks (rw e)) h.codes

    pub looked_4b : c ≡ 0x4B → Looked c4b v codes m d w
    unfolding command_of
    looked_4b e = looked saw_named (asks (rw e)) h.codes

    pub looked_4d : c ≡ 0x4D → Looked c4d v codes m d w
    unfolding command_of
    looked_4d e = looked saw_named (asks (rw e)) h.codes

    pub tellable_4c : c ≡ 0x4C → Tellable c4c v d w
    unfolding command_of
    tellable_4c e = tellable saw_named (asks (rw e))

    pub countable_4e : Countable v w
    countable_4e = countable saw lent

    -- of each plate with so many blocks
    pub seen_by : (p : meaning.Plate) → p.total ≡ t → survey_of v ≡ survey p.total m (arg d 0)
    seen_by p e = rw e saw_named.seen

-- a command on the state is none on the memory
not-on_memory : (c : ℕ) → on_memory c ≡ false → (k : ℕ) → on_memory k ≡ true → eqb c k ≡ false
not-on_memory c x k y = ne_eqb c k (λ e. false≢true (sym x ∙ ap on_memory e ∙ y))

-- a command of the table that is on the state and none of the other nine tells label bytes
pub last-alone : (c : ℕ) (d : List ℕ) → asked (command_of c) d ≡ true → on_memory c ≡ false → (c ≡ 0x42 → ⊥) → (c ≡ 0x43 → ⊥) → (c ≡ 0x46 → ⊥)
    → (c ≡ 0x47 → ⊥) → (c ≡ 0x49 → ⊥) → (c ≡ 0x4F → ⊥) → (c ≡ 0x50 → ⊥) → (c ≡ 0x53 → ⊥) → (c ≡ 0x55 → ⊥) → either (eqb c 0x52) (eqb c 0x56) ≡ true
unfolding command_of on_memory
last-alone c d h x i j k l n o q u v =
    let y = not-on_memory c x in
    go (eqb c 0x52) (eqb c 0x56)
    (rw (
      ne_eqb c 0x42 i,
      ne_eqb c 0x43 j,
      ne_eqb c 0x46 k,
      ne_eqb c 0x47 l,
      ne_eqb c 0x49 n,
      y 0x4A refl,
      y 0x4B refl,
      y 0x4C refl,
      y 0x4D refl,
      y 0x4E refl,
      ne_eqb c 0x4F o,
      ne_eqb c 0x50 q,
      ne_eqb c 0x53 u,
      ne_eqb c 0x55 v,
    ) at h)
  where
    go : (s t : Bool) → asked (pick s c52 (pick t c56 unknown)) d ≡ true → either s t ≡ true
    go true t e = refl
    go false true e = refl
    go false false e = absurd (false≢true (sym (unknown_never d) ∙ e))

-- .. 56h where it is not 52h
pub not_52 : (c : ℕ) → either (eqb c 0x52) (eqb c 0x56) ≡ true → (c ≡ 0x52 → ⊥) → c ≡ 0x56
not_52 c h n = eqb-true c 0x56 (rw (ne_eqb c 0x52 n) at h)

-- the rows on the memory by their numbers
pub memory_rows : (c : ℕ) → on_memory c ≡ true → (0x4A ≤ c) × (c ≤ 0x4E)
unfolding on_memory
memory_rows c e = (leb-true 0x4A c (both_left (leb 0x4A c) (leb c 0x4E) e), leb-true c 0x4E (both_right (leb 0x4A c) (leb c 0x4E) e))

-- the last of those on the memory
pub last-on_memory : (c : ℕ) → on_memory c ≡ true → (c ≡ 0x4A → ⊥) → (c ≡ 0x4B → ⊥) → (c ≡ 0x4C → ⊥) → (c ≡ 0x4D → ⊥) → c ≡ 0x4E
last-on_memory c e k l n o = let rows = memory_rows c e in omega (arith, rows.0, rows.1)

-- what the rows on the state leave of the memory, and those on the fields of the state
module _ (m : List ℕ) where
  keeps : (e : ℕ) (t : Bool) (a : commands.Answer) → memory_after a m ≡ m → memory_after (error e t a) m ≡ m
  unfolding error
  keeps e true a h = refl
  keeps e false a h = h

  either_keeps : (t : Bool) (a b : commands.Answer) → memory_after a m ≡ m → memory_after b m ≡ m → memory_after (choose t a b) m ≡ m
  unfolding choose
  either_keeps true a b h k = h
  either_keeps false a b h k = k

module _ (s : meaning.State) where
  stays : (e : ℕ) (t : Bool) (a : commands.Answer) → state_after a s ≡ s → state_after (error e t a) s ≡ s
  unfolding error
  stays e true a h = refl
  stays e false a h = h

module _ (p : meaning.Plate) (s : State) {c : ℕ} (d m w : List ℕ) {r : Result Worked ErrorCode} {w' : List ℕ} where
  pub row_42 : c ≡ 0x42 → Answers c42 p s none m d w r w' → WorksOn (command_of c) p s d m w r m w'
  unfolding command_of worked read_position
  row_42 e h = rw e (record { row = h; memory = sym (keeps m _ _ _ refl) })

  pub row_46 : c ≡ 0x46 → Answers c46 p s none m d w r w' → WorksOn (command_of c) p s d m w r m w'
  unfolding command_of worked read_counter
  row_46 e h = rw e (record { row = h; memory = refl })

  pub row_43 : c ≡ 0x43 → Answers c43 p s none m d w r w' → WorksOn (command_of c) p s d m w r m w'
  unfolding command_of worked set_position
  row_43 e h = rw e (record { row = h; memory = sym (keeps m _ _ _ (keeps m _ _ _ (keeps m _ _ _ refl))) })

  pub row_47 : c ≡ 0x47 → Answers c47 p s none m d w r w' → WorksOn (command_of c) p s d m w r m w'
  unfolding command_of worked step_counter
  row_47 e h = rw e (record { row = h; memory = sym (either_keeps m _ _ _ refl refl) })

  pub row_49 : c ≡ 0x49 → Answers c49 p s none m d w r w' → WorksOn (command_of c) p s d m w r m w'
  unfolding command_of worked clear_counter
  row_49 e h = rw e (record { row = h; memory = sym (keeps m _ _ _ refl) })

  pub row_4f : c ≡ 0x4F → Answers c4f p s none m d w r w' → WorksOn (command_of c) p s d m w r m w'
  unfolding command_of worked set_code
  row_4f e h = rw e (record { row = h; memory = sym (keeps m _ _ _ (keeps m _ _ _ refl)) })

  pub row_50 : c ≡ 0x50 → Answers c50 p s none m d w r w' → WorksOn (command_of c) p s d m w r m w'
  unfolding command_of worked read_fault
  row_50 e h = rw e (record { row = h; memory = refl })

  pub row_52 : c ≡ 0x52 → Answers c52 p s none m d w r w' → WorksOn (command_of c) p s d m w r m w'
  unfolding command_of worked read_label
  row_52 e h = rw e (record { row = h; memory = refl })

  pub row_55 : c ≡ 0x55 → Answers c55 p s none m d w r w' → WorksOn (command_of c) p s d m w r m w'
  unfolding command_of worked set_address
  row_55 e h = rw e (record { row = h; memory = sym (keeps m _ _ _ (keeps m _ _ _ refl)) })

  pub row_56 : c ≡ 0x56 → Answers c56 p s none m d w r w' → WorksOn (command_of c) p s d m w r m w'
  unfolding command_of worked read_version
  row_56 e h = rw e (record { row = h; memory = refl })

  pub row_53 : c ≡ 0x53 → Answers c53 p s none m d w r w' → WorksOn (command_of c) p s d m w r m w'
  unfolding command_of worked reset
  row_53 e h = rw e (record { row = h; memory = refl })

-- the rows on the fields
module _ (p : meaning.Plate) (s : meaning.State) {c : ℕ} (d m w : List ℕ) {r : ToldAnswer} {m' w' : List ℕ} where
  pub row_4a : c ≡ 0x4A → Works (read_field p s m d) m w r m' w' → Tells (worked (command_of c) p s m d) s m w r m' w'
  unfolding command_of worked read_field on_field
  row_4a e h = rw e (record { works = h; state = stays s _ _ _ (stays s _ _ _ (stays s _ _ _ (stays s _ _ _ (stays s _ _ _ refl)))) })

  pub row_4b : c ≡ 0x4B → Works (store_field p s m d) m w r m' w' → Tells (worked (command_of c) p s m d) s m w r m' w'
  unfolding command_of worked store_field on_field
  row_4b e h = rw e (record { works = h; state = stays s _ _ _ (stays s _ _ _ (stays s _ _ _ (stays s _ _ _ (stays s _ _ _ refl)))) })

  pub row_4c : c ≡ 0x4C → Works (field_status p s m d) m w r m' w' → Tells (worked (command_of c) p s m d) s m w r m' w'
  unfolding command_of worked field_status on_field
  row_4c e h = rw e (record { works = h; state = stays s _ _ _ (stays s _ _ _ refl) })

  pub row_4d : c ≡ 0x4D → Works (shape_field p s m d) m w r m' w' → Tells (worked (command_of c) p s m d) s m w r m' w'
  unfolding command_of worked
  row_4d e h = rw e (record { works = h; state = shaped_by (λ (a : commands.Answer). state_after a s ≡ s) (λ e. refl) p s m d (λ m'. refl) })

  pub row_4e : c ≡ 0x4E → Works (memory_status p s m d) m w r m' w' → Tells (worked (command_of c) p s m d) s m w r m' w'
  unfolding command_of worked memory_status
  row_4e e h = rw e (record { works = h; state = stays s _ _ _ refl })
