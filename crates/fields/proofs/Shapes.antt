-- How 4Dh is judged, case by case, and what it leaves in memory. Assumes nothing.
use Prim.Native.Nat.{ℕ, ◌+◌, ◌-◌, ◌≤◌, ◌<◌, min, max}
use mathlib.Core.Bool.{Bool, true, false, not}
use mathlib.Core.Path.{◌≡◌, refl, sym, ap, ◌∙◌}
use mathlib.Core.List.{List, [], ◌∷◌}
use native.Mathlib.Omega.{arith}
use lib.ListN.{length, set, length-take, length-drop, length-replicate, replicate-append-replicate}
use lib.Dec.{ltb, eqb}
use borrow.Author.Tests.{lt-ltb, le-ltb, ltb-true, ltb-false, eq-eqb, ne_eqb}
use borrow.Rule.Slice.PartMut.{put_mid, mid_of, Post-is}
use Rattle.std.specs.Prelude.{Ok, Err}
use Rattle.meaning.specs.Bytes.{arg, both, differ, put, zeros}
use Rattle.meaning.specs.State.{Plate, State}
use Rattle.meaning.specs.Fields.{bytes_of, data_bytes, blocks, exists, attributes, clear, put_status, Survey, survey}
use Rattle.meaning.specs.Commands.{Answer, refuse, accept, error, choose, wrong_code, create, modify, delete, resize, shape_field}
use Rattle.meaning.proofs.Puts.{length-put, put_all, put-put, stored_is-put}
use Rattle.fields.specs.Memory.{Sits}
use Rattle.fields.specs.Shape.{Grant, stored_as, shaped, Judged, Shapes}
use Rattle.fields.specs.declared.change.Change.{Change}
use Rattle.fields.proofs.Pieces.{mid_put}
use Rattle.fields.proofs.Tables.{blocks-some}

-- the front of a part is 00h up to i, and the piece after it comes back as 00h
pub clear_more : (old : List ℕ) (i to : ℕ) (ys : List ℕ) → i ≤ to → to ≤ length old → ys ≡ zeros (to - i)
    → put_mid i (to - i) (put old 0 (zeros i)) ys ≡ put old 0 (zeros to)
clear_more old i to ys h k e =
    let n : length (zeros i) ≡ i = length-replicate _ _ in
    let j : i + (to - i) ≡ to = omega arith in
    mid_put (put old 0 (zeros i)) i to ys h (rw e (length-replicate _ _)) ∙ ap (put (put old 0 (zeros i)) i) e
    ∙ put-put old 0 (zeros i) (zeros (to - i)) i (omega arith) (omega arith)
    ∙ ap (put old 0) (replicate-append-replicate i (to - i) 0 ∙ ap zeros j)

-- .. up to its end
pub clear_end : (old : List ℕ) (i : ℕ) → i ≡ length old → put old 0 (zeros i) ≡ zeros (length old)
clear_end old i e = ap (λ (k : ℕ). put old 0 (zeros k)) e ∙ put_all old (zeros (length old)) (sym (length-replicate _ _))

-- a run lent from the middle and come back cleared
pub part_cleared : (m : List ℕ) (b n from to : ℕ) (ys : List ℕ) → from ≡ bytes_of b → to ≡ bytes_of (b + n) → to ≤ length m
    → ys ≡ zeros (length (mid_of from (to - from) m)) → put_mid from (to - from) m ys ≡ clear m b n
unfolding clear put
part_cleared m b n from to ys p q h e =
    let k : length (mid_of from (to - from) m) ≡ bytes_of n = simp (length-take, length-drop) (omega arith) in
    let i : from + bytes_of n ≡ to = omega arith in
    rw (e, k, Post-is from to m (omega arith), length-replicate, ← p, i)

-- the run and the status, done
module _ (t : ℕ) (m : List ℕ) (f st : ℕ) (run : Change) (from to at : ℕ) (ys : List ℕ) (p : from ≡ bytes_of run.from) (q : to ≡ bytes_of run.to) (o : run.from ≤ run.to)
    (h : to ≤ length m) (e : ys ≡ zeros (length (mid_of from (to - from) m))) where
  run_is : put_mid from (to - from) m ys ≡ clear m run.from (run.to - run.from)
  run_is = part_cleared m run.from (run.to - run.from) from to ys p (omega arith) h e

  run_length : length (put_mid from (to - from) m ys) ≡ length m
  unfolding clear
  run_length = ap length run_is ∙ length-put m (bytes_of run.from) (zeros (bytes_of (run.to - run.from))) (rw length-replicate (omega arith))

  pub applied : at ≡ data_bytes t + f → at < length m → set (put_mid from (to - from) m ys) at st ≡ put_status t (clear m run.from (run.to - run.from)) f st
  unfolding put_status
  applied i k =
      stored_is-put (put_mid from (to - from) m ys) at (st ∷ []) (omega (arith, run_length))
      ∙ ap (λ (l : List ℕ). put l at (st ∷ [])) run_is ∙ ap (λ (j : ℕ). put (clear m run.from (run.to - run.from)) j (st ∷ [])) i

-- the status, lent and come back as another
pub status-put : (t : ℕ) (m : List ℕ) (f st at : ℕ) → at ≡ data_bytes t + f → put_mid at (at + 1 - at) m (st ∷ []) ≡ put_status t m f st
unfolding put_status
status-put t m f st at e = mid_put m at (at + 1) (st ∷ []) (omega arith) (omega arith) ∙ ap (λ (j : ℕ). put m j (st ∷ [])) e

-- the status that is stored: a field's, and none's
pub stored_field : (st : ℕ) → exists st ≡ true → stored_as st ≡ st
unfolding stored_as
stored_field st e = rw e

pub stored_none : (st : ℕ) → exists st ≡ false → stored_as st ≡ 0
unfolding stored_as
stored_none st e = rw e

-- a granted change, by its first block, its blocks and the status that is stored
granted_as : (run : Change) (t : ℕ) (s : State) (m : List ℕ) (f asked b n st : ℕ) → run.from ≡ b → run.to - run.from ≡ n → stored_as asked ≡ st
    → accept (f ∷ asked ∷ []) s (put_status t (clear m b n) f st) ≡ shaped (Ok run) t s m f asked
granted_as run t s m f asked b n st p q e = cc

module _ (codes : List ℕ) (t f : ℕ) (v : Survey) (c : ℕ) where
  -- whether the code is wrong for the status st
  abbrev pub Wrong : ℕ → Bool → Type 0
  Wrong st b = (s : State) → s.codes ≡ codes → b ≡ wrong_code s st c

  -- create
  module _ (new : ℕ) where
    abbrev pub Creates : Grant → Type 0
    Creates = Judged codes t f new (λ (s : State) (m : List ℕ). create t s m v f new c)

    made : State → List ℕ → Answer
    made s m = accept (f ∷ new ∷ []) s (put_status t (clear m (t - v.free) (blocks new)) f new)

    create_as : (b k : Bool) → Wrong new b → ltb v.free (blocks new) ≡ k → (s : State) (m : List ℕ) → s.codes ≡ codes
        → create t s m v f new c ≡ error 0x0F b (error 0x10 k (made s m))
    unfolding create made
    create_as b k w l s m e =
        ap (λ (x : Bool). error 0x0F x (error 0x10 (ltb v.free (blocks new)) (made s m))) (sym (w s e)) ∙ ap (λ (x : Bool). error 0x0F b (error 0x10 x (made s m))) l

    pub create-barred : Wrong new true → Creates (Err (record { byte = 0x0F }))
    unfolding error
    create-barred w = record { answer = λ s m e. create_as true _ w refl s m e; place = tt }

    pub create-short : Wrong new false → (n : ℕ) → n ≡ blocks new → true ≡ ltb (0 + v.free) n → Creates (Err (record { byte = 0x10 }))
    unfolding error
    create-short w n i h = record {
      answer = λ s m e. create_as false true w (lt-ltb v.free (blocks new) (omega (arith, ltb-true (0 + v.free) n (sym h)))) s m e;
      place = tt;
    }

    pub create-granted : Wrong new false → (n : ℕ) → n ≡ blocks new → false ≡ ltb (0 + v.free) n → Sits t v f → f ≡ v.fields → exists new ≡ true
        → (run : Change) → run ≡ record { from = t - v.free + min 0 n; to = t - v.free + max 0 n } → Creates (Ok run)
    unfolding error made
    create-granted w n i h sits at x run e =
        let k = ltb-false (0 + v.free) n (sym h) in
        let r = sits.room in
        let p = ap (λ (z : Change). z.from) e in
        let q = ap (λ (z : Change). z.to) e in
        record {
          answer = λ s m o. create_as false false w (le-ltb v.free (blocks new) (omega arith)) s m o
              ∙ granted_as run t s m f new (t - v.free) (blocks new) new (omega arith) (omega arith) (stored_field new x);
          place = record { below = omega (arith, blocks-some new); run = omega arith; within = omega arith };
        }

  -- modify
  module _ (new : ℕ) where
    abbrev pub Modifies : Grant → Type 0
    Modifies = Judged codes t f new (λ (s : State) (m : List ℕ). modify t s m v f new c)

    sized : State → List ℕ → Answer
    sized s m = accept (f ∷ new ∷ []) s (put_status t (resize m v.first (blocks v.status) (blocks new)) f new)

    modify_as : (b k l : Bool) → Wrong v.status b → both (differ (blocks new) (blocks v.status)) (differ (f + 1) v.fields) ≡ k
        → ltb (blocks v.status + v.free) (blocks new) ≡ l → (s : State) (m : List ℕ) → s.codes ≡ codes
        → modify t s m v f new c ≡ error 0x0F b (error 0x10 k (error 0x10 l (sized s m)))
    unfolding modify sized
    modify_as b k l w p q s m e =
        ap (λ (x : Bool). error 0x0F x (error 0x10 (both (differ (blocks new) (blocks v.status)) (differ (f + 1) v.fields)) (error 0x10 (ltb (blocks v.status + v.free) (blocks new)) (sized s m)))) (sym (w s e))
        ∙ ap (λ (x : Bool). error 0x0F b (error 0x10 x (error 0x10 (ltb (blocks v.status + v.free) (blocks new)) (sized s m)))) p
        ∙ ap (λ (x : Bool). error 0x0F b (error 0x10 k (error 0x10 x (sized s m)))) q

    pub modify-barred : Wrong v.status true → Modifies (Err (record { byte = 0x0F }))
    unfolding error
    modify-barred w = record { answer = λ s m e. modify_as true _ _ w refl refl s m e; place = tt }

    module _ (n old : ℕ) (i : n ≡ blocks new) (o : old ≡ blocks v.status) where
      held_as : {k : Bool} → k ≡ both (differ n old) (differ (f + 1) v.fields) → both (differ (blocks new) (blocks v.status)) (differ (f + 1) v.fields) ≡ k
      held_as h = sym (h ∙ rw (i, o))

      short_as : {k : Bool} → k ≡ ltb (old + v.free) n → ltb (blocks v.status + v.free) (blocks new) ≡ k
      short_as h = sym (h ∙ rw (i, o))

      pub modify-held : Wrong v.status false → true ≡ both (differ n old) (differ (f + 1) v.fields) → Modifies (Err (record { byte = 0x10 }))
      unfolding error
      modify-held w h = record { answer = λ s m e. modify_as false true _ w (held_as h) refl s m e; place = tt }

      pub modify-short : Wrong v.status false → false ≡ both (differ n old) (differ (f + 1) v.fields) → true ≡ ltb (old + v.free) n → Modifies (Err (record { byte = 0x10 }))
      unfolding error
      modify-short w h k = record { answer = λ s m e. modify_as false false true w (held_as h) (short_as k) s m e; place = tt }

      pub modify-granted : Wrong v.status false → false ≡ both (differ n old) (differ (f + 1) v.fields) → false ≡ ltb (old + v.free) n → Sits t v f → f < v.fields → exists new ≡ true
          → (run : Change) → run ≡ record { from = v.first + min old n; to = v.first + max old n } → Modifies (Ok run)
      unfolding error sized resize
      modify-granted w h k sits there x run e =
          let r = sits.room in
          let y = sits.own there in
          let z = ltb-false (old + v.free) n (sym k) in
          let p = ap (λ (z : Change). z.from) e in
          let q = ap (λ (z : Change). z.to) e in
          let was = blocks v.status in
          let will = blocks new in
          record {
            answer = λ s m u. modify_as false false false w (held_as h) (short_as k) s m u
                ∙ granted_as run t s m f new (v.first + min was will) (max was will - min was will) new (omega arith) (omega arith) (stored_field new x);
            place = record { below = omega arith; run = omega arith; within = omega arith };
          }

  -- delete
  module _ (gone : ℕ) where
    abbrev pub Deletes : Grant → Type 0
    Deletes = Judged codes t f gone (λ (s : State) (m : List ℕ). delete t s m v f gone c)

    freed : State → List ℕ → Answer
    freed s m = accept (f ∷ gone ∷ []) s (put_status t (clear m v.first (blocks v.status)) f 0)

    delete_as : (b u k : Bool) → Wrong v.status b → differ (attributes gone) (attributes v.status) ≡ u → differ (f + 1) v.fields ≡ k
        → (s : State) (m : List ℕ) → s.codes ≡ codes → delete t s m v f gone c ≡ error 0x0F b (error 0x0D u (error 0x10 k (freed s m)))
    unfolding delete freed
    delete_as b u k w n p s m e =
        ap (λ (x : Bool). error 0x0F x (error 0x0D (differ (attributes gone) (attributes v.status)) (error 0x10 (differ (f + 1) v.fields) (freed s m)))) (sym (w s e))
        ∙ ap (λ (x : Bool). error 0x0F b (error 0x0D x (error 0x10 (differ (f + 1) v.fields) (freed s m)))) n
        ∙ ap (λ (x : Bool). error 0x0F b (error 0x0D u (error 0x10 x (freed s m)))) p

    pub delete-barred : Wrong v.status true → Deletes (Err (record { byte = 0x0F }))
    unfolding error
    delete-barred w = record { answer = λ s m e. delete_as true _ _ w refl refl s m e; place = tt }

    -- the attributes of the status that came, and of the stored one
    module _ (named stored : ℕ) (i : named ≡ attributes gone) (o : stored ≡ attributes v.status) where
      pub delete_misnamed : Wrong v.status false → (named ≡ stored → ⊥) → Deletes (Err (record { byte = 0x0D }))
      unfolding error
      delete_misnamed w n = record {
        answer = λ s m e. delete_as false true _ w (ap not (ne_eqb (attributes gone) (attributes v.status) (λ h. n (i ∙ h ∙ sym o)))) refl s m e;
        place = tt;
      }

      as_named : named ≡ stored → differ (attributes gone) (attributes v.status) ≡ false
      as_named n = ap not (eq-eqb (attributes gone) (attributes v.status) (sym i ∙ n ∙ o))

      pub delete-held : Wrong v.status false → named ≡ stored → (f + 1 ≡ v.fields → ⊥) → Deletes (Err (record { byte = 0x10 }))
      unfolding error
      delete-held w n h = record { answer = λ s m e. delete_as false false true w (as_named n) (ap not (ne_eqb (f + 1) v.fields h)) s m e; place = tt }

      pub delete-granted : Wrong v.status false → named ≡ stored → f + 1 ≡ v.fields → (old : ℕ) → old ≡ blocks v.status → Sits t v f → exists gone ≡ false
          → (run : Change) → run ≡ record { from = v.first + min old 0; to = v.first + max old 0 } → Deletes (Ok run)
      unfolding error freed
      delete-granted w n h old k sits x run e =
          let r = sits.room in
          let y = sits.own (omega arith) in
          let p = ap (λ (z : Change). z.from) e in
          let q = ap (λ (z : Change). z.to) e in
          record {
            answer = λ s m u. delete_as false false false w (as_named n) (ap not (eq-eqb (f + 1) v.fields h)) s m u
                ∙ granted_as run t s m f gone v.first (blocks v.status) 0 (omega arith) (omega arith) (stored_none gone x);
            place = record { below = omega arith; run = omega arith; within = omega arith };
          }

-- the whole row
module _ (codes : List ℕ) (t : ℕ) (v : Survey) (d : List ℕ) where
  abbrev f : ℕ
  f = arg d 0

  abbrev new : ℕ
  new = arg d 1

  abbrev c : ℕ
  c = arg d 2

  cases : Survey → Bool → Bool → Bool → Bool → State → List ℕ → Answer
  cases w b x n l s m =
      error 0x03 (not b) (choose x (choose n (create t s m w f new c) (choose l (modify t s m w f new c) (refuse 0x12))) (choose l (delete t s m w f new c) (refuse 0x12)))

  row_is : (p : Plate) (s : State) (m : List ℕ) → p.total ≡ t
      → shape_field p s m d ≡ cases (survey t m f) (survey t m f).trusted (exists new) (eqb f (survey t m f).fields) (ltb f (survey t m f).fields) s m
  unfolding shape_field cases
  row_is p s m e = rw e

  shape_as : (b x n l : Bool) → v.trusted ≡ b → exists new ≡ x → eqb f v.fields ≡ n → ltb f v.fields ≡ l
      → (p : Plate) (s : State) (m : List ℕ) → p.total ≡ t → v ≡ survey t m f → shape_field p s m d ≡ cases v b x n l s m
  shape_as b x n l hb hx hn hl p s m e q =
      row_is p s m e ∙ ap (λ (w : Survey). cases w w.trusted (exists new) (eqb f w.fields) (ltb f w.fields) s m) (sym q)
      ∙ ap (λ (y : Bool). cases v y (exists new) (eqb f v.fields) (ltb f v.fields) s m) hb
      ∙ ap (λ (y : Bool). cases v b y (eqb f v.fields) (ltb f v.fields) s m) hx
      ∙ ap (λ (y : Bool). cases v b x y (ltb f v.fields) s m) hn ∙ ap (λ (y : Bool). cases v b x n y s m) hl

  pub shape_unsound : v.trusted ≡ false → Shapes codes t v d (Err (record { byte = 0x03 }))
  unfolding cases error
  shape_unsound h = record { answer = λ p s m e k q. shape_as false _ _ _ h refl refl refl p s m e q; place = tt }

  module _ (h : v.trusted ≡ true) where
    pub shape_past : exists new ≡ true → v.fields < f → Shapes codes t v d (Err (record { byte = 0x12 }))
    unfolding cases error choose
    shape_past x l = record {
      answer = λ p s m e k q. shape_as true true false false h x (ne_eqb f v.fields (λ i. omega arith)) (le-ltb f v.fields (omega arith)) p s m e q;
      place = tt;
    }

    pub shape_none : exists new ≡ false → v.fields ≤ f → Shapes codes t v d (Err (record { byte = 0x12 }))
    unfolding cases error choose
    shape_none x l = record { answer = λ p s m e k q. shape_as true false _ false h x refl (le-ltb f v.fields l) p s m e q; place = tt }

    pub shape_create : exists new ≡ true → f ≡ v.fields → (r : Grant) → Creates codes t f v c new r → Shapes codes t v d r
    unfolding cases error choose
    shape_create x i r j = record {
      answer = λ p s m e k q. shape_as true true true _ h x (eq-eqb f v.fields i) refl p s m e q ∙ j.answer s m k;
      place = j.place;
    }

    pub shape_modify : exists new ≡ true → f < v.fields → (r : Grant) → Modifies codes t f v c new r → Shapes codes t v d r
    unfolding cases error choose
    shape_modify x l r j = record {
      answer = λ p s m e k q. shape_as true true false true h x (ne_eqb f v.fields (λ i. omega arith)) (lt-ltb f v.fields l) p s m e q ∙ j.answer s m k;
      place = j.place;
    }

    pub shape_delete : exists new ≡ false → f < v.fields → (r : Grant) → Deletes codes t f v c new r → Shapes codes t v d r
    unfolding cases error choose
    shape_delete x l r j = record {
      answer = λ p s m e k q. shape_as true false _ true h x refl (lt-ltb f v.fields l) p s m e q ∙ j.answer s m k;
      place = j.place;
    }
