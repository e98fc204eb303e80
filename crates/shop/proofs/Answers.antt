-- What the board answers to the programmer's requests, its memory being laid. Assumes nothing.
use Prim.Native.Nat.{ℕ, suc, ◌+◌, ◌-◌, ◌*◌, ◌≤◌, ◌<◌}
use mathlib.Core.Path.{◌≡◌, sym, ◌∙◌}
use mathlib.Core.Bool.{Bool, true, false, not}
use mathlib.Core.List.{List, [], ◌∷◌}
use native.Mathlib.Omega.{arith}
use lib.Dec.{T, eqb, leb, ltb, not_T, eqb→eq, leb→le, lt→ltb}
use lib.ListN.{length, get_or, take}
use Rattle.meaning.specs.Bytes.{both, either, differ, part, put}
use Rattle.meaning.specs.State.{Plate, State, code}
use Rattle.meaning.specs.Fields.{blocks, coded, code_no, writable, exists, attributes, table, field_count, used, sound, free_blocks, status_at, survey, clear, put_status}
use Rattle.meaning.specs.Commands.{c4a, c4b, c4c, c4d, c4e, Answer, accept, error, choose, wrong_code, on_field, read_field, store_field, field_status, create, resize, modify, delete, shape_field, free_byte, memory_status, worked}
use Rattle.meaning.proofs.Cases.{eq→eqb}
use Rattle.meaning.proofs.Room.{pass, take_yes, take_no, yes_not, no_differ}
use Rattle.meaning.proofs.Tables.{blocks_pos}
use Rattle.meaning.proofs.Wire.{not-below}
use Rattle.shop.proofs.Laid.{Laid, laid_count, laid_used, laid_status, laid_first, laid_sound}

-- a chain of checks, passed one by one (meaning, `pass`, `take_yes`, `take_no`)
pub passing : (e : ℕ) (q : Bool) (a b : Answer) → T (not q) → a ≡ b → error e q a ≡ b
passing e q a b h k = pass e q a h ∙ k

pub choose_yes : (q : Bool) (a b c : Answer) → T q → a ≡ c → choose q a b ≡ c
choose_yes q a b c h k = take_yes q a b h ∙ k

pub choose_no : (q : Bool) (a b c : Answer) → T (not q) → b ≡ c → choose q a b ≡ c
choose_no q a b c h k = take_no q a b h ∙ k

-- tests from facts
not_le : (a b : ℕ) → b < a → T (not (leb a b))
not_le a b h = not_T (leb a b) (λ k. absurd (omega (arith, leb→le a b k, h)))

not_eq : (a b : ℕ) → a < b → T (not (eqb a b))
not_eq a b h = not_T (eqb a b) (λ k. absurd (omega (arith, eqb→eq a b k, h)))

neither : (a b : Bool) → T (not a) → T (not b) → T (not (either a b))
neither true b h k = h
neither false b h k = k

not-both : (a b : Bool) → T (not b) → T (not (both a b))
not-both true b h = h
not-both false b h = tt

not-both_0 : (a b : Bool) → T (not a) → T (not (both a b))
not-both_0 true b h = absurd h
not-both_0 false b h = tt

pub blocks-few : (st : ℕ) → blocks st ≤ 8
unfolding blocks
blocks-few st = omega arith

module _ (p : Plate) (s : State) (m sts : List ℕ) (I : Laid p.total m sts) where
  abbrev t : ℕ
  t = p.total

  trusts : T (not (not (sound t (table t m))))
  trusts = yes_not (sound t (table t m)) (laid_sound t m sts I)

  -- 4Eh
  pub told-count : worked c4e p s m [] ≡ accept ((t - used sts) ∷ length sts ∷ []) s m
  unfolding worked memory_status survey free_blocks free_byte
  told-count = passing _ _ _ _ trusts (rw (laid_used t m sts I, laid_count t m sts I))

  -- 4Ch of a field present
  pub told-status : (k : ℕ) → k < length sts → worked c4c p s m (k ∷ []) ≡ accept (k ∷ get_or sts k 0 ∷ []) s m
  unfolding worked field_status on_field survey
  told-status k l = passing _ _ _ _ trusts
      (passing _ _ _ _ (not_le (field_count (table t m)) k (rw (laid_count t m sts I) l)) (rw (laid_status t m sts I k l)))

  module _ (c : ℕ) where
    right_code : (st : ℕ) → c ≡ get_or s.codes (code_no st) 0 → T (not (wrong_code s st c))
    unfolding wrong_code code
    right_code st e = no_differ c (get_or s.codes (code_no st) 0) e

    -- 4Dh that deletes the last field
    pub deleted : (k : ℕ) → suc k ≡ length sts → c ≡ get_or s.codes (code_no (get_or sts k 0)) 0
        → worked c4d p s m (k ∷ attributes (get_or sts k 0) ∷ c ∷ []) ≡ accept (k ∷ attributes (get_or sts k 0) ∷ []) s (put_status t (clear m (used (take k sts)) (blocks (get_or sts k 0))) k 0)
    unfolding worked shape_field delete survey exists attributes
    deleted k last e =
        let st : status_at (table t m) k ≡ get_or sts k 0 = laid_status t m sts I k (omega arith) in
        passing _ _ _ _ trusts (choose_no _ _ _ _ (not_le 128 (attributes (get_or sts k 0)) (omega arith))
        (choose_yes _ _ _ _ (lt→ltb k (field_count (table t m)) (rw (laid_count t m sts I) (omega arith)))
        (passing _ _ _ _ (right_code (status_at (table t m) k) (rw st e))
        (passing _ _ _ _ (no_differ (attributes (attributes (get_or sts k 0))) (attributes (status_at (table t m) k)) (rw st (omega arith)))
        (passing _ _ _ _ (no_differ (k + 1) (field_count (table t m)) (rw (laid_count t m sts I) (omega arith)))
        (rw (st, laid_first t m sts I k (omega arith))))))))

    -- 4Dh that creates the next
    pub made : (st : ℕ) → T (exists st) → used sts + blocks st ≤ t → c ≡ get_or s.codes (code_no st) 0
        → worked c4d p s m (length sts ∷ st ∷ c ∷ []) ≡ accept (length sts ∷ st ∷ []) s (put_status t (clear m (used sts) (blocks st)) (length sts) st)
    unfolding worked shape_field create survey free_blocks
    made st ex room e =
        let u : t - (t - used (table t m)) ≡ used sts = rw (laid_used t m sts I) (omega (arith, I.fit)) in
        passing _ _ _ _ trusts (choose_yes _ _ _ _ ex
        (choose_yes _ _ _ _ (eq→eqb (length sts) (field_count (table t m)) (sym (laid_count t m sts I)))
        (passing _ _ _ _ (right_code st e)
        (passing _ _ _ _ (not-below (t - used (table t m)) (blocks st) (rw (laid_used t m sts I) (omega arith)))
        (rw u)))))

    -- 4Dh that changes a status, the size staying
    pub changed : (f st : ℕ) → f < length sts → T (exists st) → blocks st ≡ blocks (get_or sts f 0) → c ≡ get_or s.codes (code_no (get_or sts f 0)) 0
        → worked c4d p s m (f ∷ st ∷ c ∷ []) ≡ accept (f ∷ st ∷ []) s (put_status t (resize m (used (take f sts)) (blocks (get_or sts f 0)) (blocks st)) f st)
    unfolding worked shape_field modify survey free_blocks
    changed f st l ex same e =
        let old : status_at (table t m) f ≡ get_or sts f 0 = laid_status t m sts I f l in
        passing _ _ _ _ trusts (choose_yes _ _ _ _ ex
        (choose_no _ _ _ _ (not_eq f (field_count (table t m)) (rw (laid_count t m sts I) l))
        (choose_yes _ _ _ _ (lt→ltb f (field_count (table t m)) (rw (laid_count t m sts I) l))
        (passing _ _ _ _ (right_code (status_at (table t m) f) (rw old e))
        (passing _ _ _ _ (not-both_0 (differ (blocks st) (blocks (status_at (table t m) f))) (differ (f + 1) (field_count (table t m))) (no_differ (blocks st) (blocks (status_at (table t m) f)) (rw old same)))
        (passing _ _ _ _ (not-below (blocks (status_at (table t m) f) + (t - used (table t m))) (blocks st) (rw old (omega arith)))
        (rw (old, laid_first t m sts I f (omega arith)))))))))

    module _ (f : ℕ) (l : f < length sts) (e : c ≡ get_or s.codes (code_no (get_or sts f 0)) 0) (bs : List ℕ) (whole : length bs ≡ 16 * blocks (get_or sts f 0)) where
      old : status_at (table t m) f ≡ get_or sts f 0
      old = laid_status t m sts I f l

      there : T (not (leb (field_count (table t m)) f))
      there = not_le (field_count (table t m)) f (rw (laid_count t m sts I) l)

      may : T (not (both (coded (status_at (table t m) f)) (wrong_code s (status_at (table t m) f) c)))
      may = not-both (coded (status_at (table t m) f)) (wrong_code s (status_at (table t m) f) c) (right_code (status_at (table t m) f) (rw old e))

      within : T (not (ltb (16 * blocks (status_at (table t m) f)) (0 + length bs)))
      within = not-below (16 * blocks (status_at (table t m) f)) (0 + length bs) (rw old (omega arith))

      -- 4Bh of the whole field
      pub stored : T (writable (get_or sts f 0)) → worked c4b p s m (f ∷ 0 ∷ length bs ∷ c ∷ bs) ≡ accept (f ∷ 0 ∷ length bs ∷ []) s (put m (16 * used (take f sts)) bs)
      unfolding worked store_field on_field survey
      stored w =
          let a : 16 * used (take f (table t m)) + 0 ≡ 16 * used (take f sts) = rw (laid_first t m sts I f (omega arith)) (omega arith) in
          passing _ _ _ _ trusts (passing _ _ _ _ there (passing _ _ _ _ may
          (passing _ _ _ _ (yes_not (writable (status_at (table t m) f)) (rw old w))
          (passing _ _ _ _ within (rw a)))))

      -- 4Ah of the whole field
      pub brought : worked c4a p s m (f ∷ 0 ∷ length bs ∷ c ∷ []) ≡ accept (f ∷ 0 ∷ length bs ∷ part m (16 * used (take f sts)) (length bs)) s m
      unfolding worked read_field on_field survey
      brought =
          let a : 16 * used (take f (table t m)) + 0 ≡ 16 * used (take f sts) = rw (laid_first t m sts I f (omega arith)) (omega arith) in
          passing _ _ _ _ trusts (passing _ _ _ _ there (passing _ _ _ _ may
          (passing _ _ _ _ (neither (eqb (length bs) 0) (ltb 128 (length bs)) (nonzero (length bs) some) (not-below 128 (length bs) few))
          (passing _ _ _ _ within (rw a)))))
        where
          some : 0 < length bs
          some = omega (arith, blocks_pos (get_or sts f 0))

          few : length bs ≤ 128
          few = omega (arith, blocks-few (get_or sts f 0))

          nonzero : (n : ℕ) → 0 < n → T (not (eqb n 0))
          nonzero n h = not_T (eqb n 0) (λ k. absurd (omega (arith, eqb→eq n 0 k, h)))
