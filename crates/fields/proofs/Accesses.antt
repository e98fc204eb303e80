-- How the rows 4Ah and 4Bh end, and a field's own part of memory in place of the memory. Assumes nothing.
use Prim.Native.Nat.{ℕ, ◌+◌, ◌-◌, ◌≤◌, ◌<◌}
use mathlib.Core.Bool.{Bool, true, false, not}
use mathlib.Core.Path.{◌≡◌, refl, sym, ap, subst, ◌∙◌}
use mathlib.Core.List.{List, ◌∷◌}
use native.Mathlib.Omega.{arith}
use lib.ListN.{length, take, drop, length-take, length-drop}
use lib.Dec.{ltb, eqb}
use borrow.Author.Tests.{lt-ltb, le-ltb, ltb-false, eq-eqb, ne_eqb}
use borrow.Rule.Slice.PartMut.{put_mid, mid_of, put_same}
use Rattle.std.specs.Prelude.{Some, Ok, Err}
use Rattle.meaning.specs.Bytes.{arg, either, part, put}
use Rattle.meaning.specs.State.{Plate, State}
use Rattle.meaning.specs.Fields.{bytes_of, blocks, writable, Survey, survey}
use Rattle.meaning.specs.Commands as meaning
use Rattle.meaning.specs.Commands.{refuse, accept, error, on_field, barred, outside, read_field, store_field}
use Rattle.wire.specs.declared.codes.ErrorCode.{ErrorCode}
use Rattle.wire.specs.Answers.{ToldAnswer, told, Works}
use Rattle.fields.specs.Memory.{Sized}
use Rattle.wire.proofs.Laws.{tail_filled}
use Rattle.meaning.proofs.Puts.{length-put, put-put}
use Rattle.fields.specs.Replies.{named, read_own, store_own, Replied}
use Rattle.fields.specs.Found.{Look, or_else, OpenTo}
use Rattle.fields.specs.declared.find.Field.{Field}
use Rattle.fields.proofs.Walk.{rest-is}
use Rattle.fields.proofs.Pieces.{part-part, put_in_part, mid_put}

-- the reader: past the end, and within it
module _ (own d : List ℕ) (s : State) (m : List ℕ) where
  pub read_past : length own < arg d 1 + arg d 2 → read_own own d s m ≡ refuse 0x11
  unfolding error
  read_past h = rw (lt-ltb _ _ h)

  pub read-within : arg d 1 + arg d 2 ≤ length own → read_own own d s m ≡ accept (arg d 0 ∷ arg d 1 ∷ arg d 2 ∷ part own (arg d 1) (arg d 2)) s m
  unfolding error
  read-within h = rw (le-ltb _ _ h)

-- the writer: the same
module _ (own d : List ℕ) (s : State) where
  pub store_past : length own < arg d 1 + arg d 2 → store_own own d s ≡ refuse 0x11
  unfolding error
  store_past h = rw (lt-ltb _ _ h)

  pub store_within : arg d 1 + arg d 2 ≤ length own → store_own own d s ≡ accept (named d) s (put own (arg d 1) (drop 4 d))
  unfolding error
  store_within h = rw (le-ltb _ _ h)

-- what the reader leaves: the three bytes, and the field's after them. `told` and `filled` are the room after each of the two
pub read_told : (own d w told filled : List ℕ) (from to : ℕ) → from ≡ arg d 1 → to ≡ arg d 1 + arg d 2 → arg d 1 + arg d 2 ≤ length own → arg d 2 ≤ 128 → 134 ≤ length w
    → told ≡ put w 2 (named d) → filled ≡ put (mid_of 5 (length told - 5) told) 0 (take (to - from) (drop from own))
    → Replied (arg d 0 ∷ arg d 1 ∷ arg d 2 ∷ part own (arg d 1) (arg d 2)) w (Ok (Some (3 + arg d 2))) (put_mid 5 (length told - 5) told filled)
unfolding part
read_told own d w told filled from to i j h few room e q =
    let n : to - from ≡ arg d 2 = omega arith in
    let xs : List ℕ = take (arg d 2) (drop (arg d 1) own) in
    let len : length xs ≡ arg d 2 = simp (length-take, length-drop) (omega arith) in
    let all : length told ≡ length w = ap length e ∙ length-put w 2 (named d) (omega arith) in
    let count : 3 + arg d 2 ≡ length (arg d 0 ∷ arg d 1 ∷ arg d 2 ∷ xs) = omega arith in
    record {
      answer = ap (λ (k : ℕ). Ok (Some k)) count;
      room = ap (λ (y : List ℕ). put_mid 5 (length told - 5) told y) (q ∙ rw (n, i))
          ∙ tail_filled told xs 5 (omega arith) ∙ ap (λ (z : List ℕ). put z 5 xs) e ∙ put-put w 2 (named d) xs 5 refl (omega arith);
    }

-- what the writer leaves in the field's own part: of a tail lent and filled
pub store_told : (own d filled : List ℕ) → length d ≡ 4 + arg d 2 → arg d 1 + arg d 2 ≤ length own
    → filled ≡ put (mid_of (arg d 1) (length own - arg d 1) own) 0 (take (length d - 4) (drop 4 d))
    → put_mid (arg d 1) (length own - arg d 1) own filled ≡ put own (arg d 1) (drop 4 d)
store_told own d filled len h q =
    let k : length (drop 4 d) ≡ arg d 2 = simp length-drop (omega arith) in
    ap (λ (y : List ℕ). put_mid (arg d 1) (length own - arg d 1) own y) (q ∙ ap (λ (z : List ℕ). put (mid_of (arg d 1) (length own - arg d 1) own) 0 z) (rest-is d 4))
    ∙ tail_filled own (drop 4 d) (arg d 1) (omega arith)

-- .. and of its very cells, set to the bytes
pub cells_told : (own d cells : List ℕ) (from to : ℕ) → length d ≡ 4 + arg d 2 → from ≡ arg d 1 → to ≡ arg d 1 + arg d 2 → cells ≡ take (length d - 4) (drop 4 d)
    → put_mid from (to - from) own cells ≡ put own (arg d 1) (drop 4 d)
cells_told own d cells from to len i j q =
    let k : length (drop 4 d) ≡ arg d 2 = simp length-drop (omega arith) in
    ap (λ (y : List ℕ). put_mid from (to - from) own y) (q ∙ rest-is d 4) ∙ mid_put own from to (drop 4 d) (omega arith) (omega arith)
    ∙ ap (λ (n : ℕ). put own n (drop 4 d)) i

module _ (p : Plate) (s : State) (codes : List ℕ) (t : ℕ) (m d : List ℕ) (e : p.total ≡ t) (q : s.codes ≡ codes) where
  abbrev v : Survey
  v = survey t m (arg d 0)

  abbrev reads : meaning.Answer
  reads = error 0x11 (outside v (arg d 1) (arg d 2)) (accept (arg d 0 ∷ arg d 1 ∷ arg d 2 ∷ part m (bytes_of v.first + arg d 1) (arg d 2)) s m)

  abbrev stores : meaning.Answer
  stores = error 0x11 (outside v (arg d 1) (arg d 2)) (accept (named d) s (put m (bytes_of v.first + arg d 1) (drop 4 d)))

  -- 4Ah
  read_of : read_field p s m d ≡ on_field v (arg d 0) (error 0x0F (barred s v (arg d 3)) (error 0x0D (either (eqb (arg d 2) 0) (ltb 128 (arg d 2))) reads))
  unfolding read_field
  read_of = rw e

  module _ (g : Look) (w : OpenTo codes (arg d 3) t m (arg d 0) g) where
    read_open : read_field p s m d ≡ or_else g (error 0x0D (either (eqb (arg d 2) 0) (ltb 128 (arg d 2))) reads)
    read_open = read_of ∙ w.chain s _ q

  pub read-refused : (e : ErrorCode) → OpenTo codes (arg d 3) t m (arg d 0) (Err e) → read_field p s m d ≡ refuse e.byte
  read-refused e w = read_open (Err e) w

  -- 4Bh
  store_of : store_field p s m d ≡ on_field v (arg d 0) (error 0x0F (barred s v (arg d 3)) (error 0x0E (not (writable v.status)) stores))
  unfolding store_field
  store_of = rw e

  module _ (g : Look) (w : OpenTo codes (arg d 3) t m (arg d 0) g) where
    store_open : store_field p s m d ≡ or_else g (error 0x0E (not (writable v.status)) stores)
    store_open = store_of ∙ w.chain s _ q

  pub store_refused : (e : ErrorCode) → OpenTo codes (arg d 3) t m (arg d 0) (Err e) → store_field p s m d ≡ refuse e.byte
  store_refused e w = store_open (Err e) w

  -- the field is there
  module _ (field : Field) (w : OpenTo codes (arg d 3) t m (arg d 0) (Ok field)) where
    abbrev from : ℕ
    from = field.from

    abbrev to : ℕ
    to = field.to

    abbrev st : ℕ
    st = field.status

    pub read-zero : arg d 2 ≡ 0 → read_field p s m d ≡ refuse 0x0D
    unfolding error
    read-zero h = read_open (Ok field) w ∙ ap (λ (b : Bool). error 0x0D (either b (ltb 128 (arg d 2))) reads) (eq-eqb (arg d 2) 0 h)

    counted : (arg d 2 ≡ 0 → ⊥) → read_field p s m d ≡ error 0x0D (ltb 128 (arg d 2)) reads
    counted h = read_open (Ok field) w ∙ ap (λ (b : Bool). error 0x0D (either b (ltb 128 (arg d 2))) reads) (ne_eqb (arg d 2) 0 h)

    pub read_many : (arg d 2 ≡ 0 → ⊥) → 128 < arg d 2 → read_field p s m d ≡ refuse 0x0D
    unfolding error
    read_many h k = counted h ∙ ap (λ (b : Bool). error 0x0D b reads) (lt-ltb 128 (arg d 2) k)

    read-reached : (arg d 2 ≡ 0 → ⊥) → arg d 2 ≤ 128 → read_field p s m d ≡ reads
    unfolding error
    read-reached h k = counted h ∙ ap (λ (b : Bool). error 0x0D b reads) (le-ltb 128 (arg d 2) k)

    writable-is : writable v.status ≡ writable st
    writable-is = ap writable (sym w.place.status)

    pub store_locked : writable st ≡ false → store_field p s m d ≡ refuse 0x0E
    unfolding error
    store_locked h = store_open (Ok field) w ∙ ap (λ (b : Bool). error 0x0E (not b) stores) (writable-is ∙ h)

    store_reached : writable st ≡ true → store_field p s m d ≡ stores
    unfolding error
    store_reached h = store_open (Ok field) w ∙ ap (λ (b : Bool). error 0x0E (not b) stores) (writable-is ∙ h)

    -- its own part of memory
    module _ (fit : Sized t m) where
      abbrev own : List ℕ
      own = take (to - from) (drop from m)

      own-length : length own ≡ bytes_of (blocks v.status)
      own-length =
          let l = w.place in
          let b = ap blocks l.status in
          simp (length-take, length-drop) (omega (arith, l.starts, l.ends, l.within, fit.long))

      own-reads : (b : Bool) → ltb (bytes_of (blocks v.status)) (arg d 1 + arg d 2) ≡ b
          → error 0x11 b (accept (arg d 0 ∷ arg d 1 ∷ arg d 2 ∷ part own (arg d 1) (arg d 2)) s m) ≡ error 0x11 b (accept (arg d 0 ∷ arg d 1 ∷ arg d 2 ∷ part m (bytes_of v.first + arg d 1) (arg d 2)) s m)
      unfolding error part
      own-reads true h = refl
      own-reads false h =
          let l = w.place in
          let k : arg d 1 + arg d 2 ≤ to - from = omega (arith, ltb-false (bytes_of (blocks v.status)) (arg d 1 + arg d 2) h, l.ends, ap blocks l.status) in
          ap (λ (xs : List ℕ). accept (arg d 0 ∷ arg d 1 ∷ arg d 2 ∷ xs) s m)
          (part-part m from (to - from) (arg d 1) (arg d 2) k ∙ ap (λ (i : ℕ). take (arg d 2) (drop (i + arg d 1) m)) l.starts)

      pub read_own_lem : (arg d 2 ≡ 0 → ⊥) → arg d 2 ≤ 128 → read_own own d s m ≡ read_field p s m d
      read_own_lem h k =
          ap (λ (n : ℕ). error 0x11 (ltb n (arg d 1 + arg d 2)) (accept (arg d 0 ∷ arg d 1 ∷ arg d 2 ∷ part own (arg d 1) (arg d 2)) s m)) own-length
          ∙ own-reads _ refl ∙ sym (read-reached h k)

      -- stored there, and lent back
      own-stores : (b : Bool) → ltb (bytes_of (blocks v.status)) (arg d 1 + arg d 2) ≡ b → length (drop 4 d) ≡ arg d 2 → (x x₂ : List ℕ) (r : ToldAnswer) (own₂ : List ℕ)
          → Works (error 0x11 b (accept (named d) s (put own (arg d 1) (drop 4 d)))) own x r own₂ x₂
          → Works (error 0x11 b (accept (named d) s (put m (bytes_of v.first + arg d 1) (drop 4 d)))) m x r (put_mid from (to - from) m own₂) x₂
      unfolding error
      own-stores true h len x x₂ r own₂ y = record { answer = y.answer; memory = ap (λ (z : List ℕ). put_mid from (to - from) m z) y.memory ∙ put_same from (to - from) m; room = y.room }
      own-stores false h len x x₂ r own₂ y =
          let l = w.place in
          let k : arg d 1 + arg d 2 ≤ to - from = omega (arith, ltb-false (bytes_of (blocks v.status)) (arg d 1 + arg d 2) h, l.ends, ap blocks l.status) in
          record {
            answer = y.answer;
            memory = ap (λ (z : List ℕ). put_mid from (to - from) m z) y.memory
                ∙ put_in_part m from (to - from) (arg d 1) (drop 4 d) (omega arith) (omega (arith, l.ends, l.within, fit.long))
                ∙ ap (λ (i : ℕ). put m (i + arg d 1) (drop 4 d)) l.starts;
            room = y.room;
          }

      pub store_own_lem : writable st ≡ true → length (drop 4 d) ≡ arg d 2 → (x x₂ : List ℕ) (r : ToldAnswer) (own₂ : List ℕ)
          → Works (store_own own d s) own x r own₂ x₂ → Works (store_field p s m d) m x r (put_mid from (to - from) m own₂) x₂
      store_own_lem h len x x₂ r own₂ y =
          subst (λ (a : meaning.Answer). Works a m x r (put_mid from (to - from) m own₂) x₂) (sym (store_reached h))
          (own-stores _ refl len x x₂ r own₂
          (subst (λ (n : ℕ). Works (error 0x11 (ltb n (arg d 1 + arg d 2)) (accept (named d) s (put own (arg d 1) (drop 4 d)))) own x r own₂ x₂) own-length y))
