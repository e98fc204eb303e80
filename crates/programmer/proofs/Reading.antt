-- Laws of the label tape's readers. Assumes nothing.
use Prim.Native.Nat.{ℕ, zero, suc, ◌+◌, ◌-◌, ◌*◌, ◌≤◌, ◌<◌, min}
use mathlib.Core.Path.{◌≡◌, refl, sym, ap, ◌∙◌}
use mathlib.Core.Bool.{Bool, true, false, false≢true}
use mathlib.Core.List.{List, [], ◌∷◌}
use native.Mathlib.Omega.{arith}
use native.Mathlib.Nat.{not-suc-le-zero, le_of_suc-le-suc}
use native.Mathlib.Decide.{dec_lt}
use lib.Dec.{T, eqb, ltb}
use lib.ListN.{length, get_or, take, drop, length-drop, drop_of_length-le}
use lib.Seq.{drop-drop, drop-cons, get_or-drop, take_all}
use borrow.Author.Tests.{ltb-true, eqb-true, ne_eqb}
use Rattle.std.specs.Option.{option_map}
use Rattle.std.specs.List.{slice_get}
use Rattle.std.specs.Prelude.{Option, Some, None, Result, Ok, Err}
use Rattle.std.specs.Result.{result_ok}
use Rattle.meaning.specs.Bytes.{pick, both, arg, part, little, most_count}
use Rattle.meaning.specs.Fields.{bytes_of, blocks, exists}
use Rattle.meaning.proofs.Choices.{both_right, true-told}
use Rattle.records.specs.Records.{Found, whole, cut, length_at, whole_length, record_at}
use Rattle.records.specs.Reader.{Whole, read_as, read_at}
use Rattle.records.specs.declared.record.Record.{Record}
use Rattle.records.specs.declared.record.Unread.{Unread}
use Rattle.records.specs.declared.record.Unread.TheVariants.{More, Bad}
use Rattle.records.proofs.Windows.{record_read, record_cut, record_whole}
use Rattle.programmer.specs.Wishes.{Field, Wish, Checked, good, no_field, wanted, field_in, body_of, is_field, of_its_size, first_wrong, checked_from, fields_from, wish_of}
use Rattle.programmer.specs.Reading.{RecordLies, RecordStands, FieldLies, field_as, Finds}
use Rattle.programmer.specs.Promises.{FieldsFit}
use Rattle.programmer.specs.declared.wish.TapeFault.{TapeFault}
use Rattle.programmer.specs.declared.wish.TapeFault.TheVariants.{BadRecord, WrongSize}
use Rattle.programmer.specs.declared.wish.Wanted.{Wanted}

-- a length of two bytes is no more than they can say
pub short-length : (l : List ℕ) → ((i : ℕ) → get_or l i 0 < 256) → little (take 2 l) ≤ 0xFFFF
unfolding little
short-length [] B = omega arith
short-length (x ∷ []) B = omega (arith, B 0)
short-length (x ∷ y ∷ l) B = omega (arith, B 0, B 1)

-- a record that is read, or none
module _ (s : List ℕ) (at : ℕ) where
  abbrev t : List ℕ
  t = drop at s

  stands_whole : (longest : ℕ) (e : Record) → read_as (Ok e) ≡ read_at longest at t → RecordLies s at e
  stands_whole longest e q =
      let r = record_read longest at t _ (sym q) in
      record { record_is = record_whole t r.has_kind r.inside ∙ rw (← r.kind_is, ← r.body_is); past = r.past }

  pub stands-cut : ((i : ℕ) → get_or s i 0 < 256) → (u : Unread) → read_as (Err u) ≡ read_at 0xFFFF at t → record_at t ≡ cut
  unfolding read_at length_at
  stands-cut B u e =
      record_cut t (go (ltb (length t) 4) (ltb (length_at t) 2) (ltb 0xFFFF (length_at t)) (ltb (length t) (whole_length t)) refl refl refl refl e)
    where
      few : length_at t ≤ 0xFFFF
      few = short-length t (λ i. rw (get_or-drop at s i 0) (B (at + i)))

      go : (a b c d : Bool) → ltb (length t) 4 ≡ a → ltb (length_at t) 2 ≡ b → ltb 0xFFFF (length_at t) ≡ c → ltb (length t) (whole_length t) ≡ d
          → ◌≡◌ {A = Result Whole Unread} (Err u) (pick a (Err More) (pick b (Err Bad) (pick c (Err Bad) (pick d (Err More)
          (Ok (record { kind = little (part t 2 2); start = at + 4; body = part t 4 (length_at t - 2); next = at + whole_length t }))))))
          → 2 ≤ length_at t → length t < whole_length t
      go true b c d f g h k e l = omega (arith, ltb-true (length t) 4 f)
      go false true c d f g h k e l = absurd (omega (arith, ltb-true (length_at t) 2 g))
      go false false true d f g h k e l = absurd (omega (arith, ltb-true 0xFFFF (length_at t) h, few))
      go false false false true f g h k e l = ltb-true (length t) (whole_length t) k
      go false false false false f g h k e l = let z : ◌≡◌ {A = ℕ} 0 1 = cc in absurd (omega arith)

  pub stands : ((i : ℕ) → get_or s i 0 < 256) → (r : Result Record Unread) → read_as r ≡ read_at 0xFFFF at t → RecordStands s at (result_ok r)
  stands B (Ok e) q = stands_whole 0xFFFF e q
  stands B (Err u) q = stands-cut B u q

-- a field's record by its test, or none
module _ (s : List ℕ) (at : ℕ) (e : Record) (r : RecordLies s at e) where
  field_is : is_field (record_at (drop at s)) ≡ both (eqb e.kind 0x21) (exists (arg e.body.now 0))
  unfolding is_field
  field_is = rw r.record_is

  pub other_kind : (e.kind ≡ 0x21 → ⊥) → is_field (record_at (drop at s)) ≡ false
  other_kind k = field_is ∙ rw (ne_eqb e.kind 0x21 k)

  module _ (k : e.kind ≡ 0x21) where
    pub no_bit : exists (arg e.body.now 0) ≡ false → is_field (record_at (drop at s)) ≡ false
    no_bit x = field_is ∙ rw (k, x)

    pub lies_field : (b : ℕ) → b ≡ arg e.body.now 0 → exists b ≡ true → FieldLies s at e
    unfolding body_of
    lies_field b h x = record { is = field_is ∙ rw (k, ← h, x); body = rw r.record_is; past = r.past }

pub cut_field : (s : List ℕ) (at : ℕ) → record_at (drop at s) ≡ cut → is_field (record_at (drop at s)) ≡ false
unfolding is_field
cut_field s at e = rw e

-- the walk over the fields that looks for a fault
module _ (s : List ℕ) (at : ℕ) (w : Checked) where
  pub fault_end : (left : ℕ) → length s ≤ at → w ≡ checked_from left w at (drop at s)
  unfolding checked_from
  fault_end left h = rw (drop_of_length-le s {i = at} h) (go left)
    where
      go : (k : ℕ) → w ≡ checked_from k w at []
      go zero = refl
      go (suc k) = refl

  module _ (more : at < length s) where
    pub none_left : Err (BadRecord at) ≡ checked_from 0 w at (drop at s)
    unfolding checked_from
    none_left = rw (drop-cons s at 0 more)

    opens : (k : ℕ) (l : List ℕ) → drop at s ≡ l → 0 < length l
        → checked_from (suc k) w at l ≡ pick (is_field (record_at l)) (checked_from k (first_wrong w (of_its_size (body_of (record_at l))) at) (at + whole_length l) (drop (whole_length l) l)) (Err (BadRecord at))
    unfolding checked_from
    opens k [] e h = absurd (omega arith)
    opens k (x ∷ l) e h = refl

    module _ (left rest : ℕ) (one : left ≡ suc rest) where
      opened : checked_from left w at (drop at s)
          ≡ pick (is_field (record_at (drop at s))) (checked_from rest (first_wrong w (of_its_size (body_of (record_at (drop at s)))) at) (at + whole_length (drop at s)) (drop (whole_length (drop at s)) (drop at s))) (Err (BadRecord at))
      opened = rw one (opens rest (drop at s) refl (rw (length-drop at s) (omega arith)))

      pub fault_more : (e : Record) → FieldLies s at e → checked_from rest (first_wrong w (of_its_size e.body.now) at) e.next.at (drop e.next.at s) ≡ checked_from left w at (drop at s)
      fault_more e h = sym (opened ∙ rw (h.is, h.body, drop-drop (whole_length (drop at s)) at s, ← h.past))

    pub bad_here : (left : ℕ) → 0 < left → is_field (record_at (drop at s)) ≡ false → Err (BadRecord at) ≡ checked_from left w at (drop at s)
    bad_here zero h e = absurd (omega arith)
    bad_here (suc k) h e = sym (opened (suc k) k refl ∙ rw e)

-- a field's record with no wrong size before it, and one past the first wrong size
module _ (s : List ℕ) (at : ℕ) (more : at < length s) (left rest : ℕ) (one : left ≡ suc rest) (e : Record) (h : FieldLies s at e) where
  pub sized_more : of_its_size e.body.now ≡ true → checked_from rest good e.next.at (drop e.next.at s) ≡ checked_from left good at (drop at s)
  unfolding first_wrong
  sized_more f = rw f at (fault_more s at good more left rest one e h)

  pub wrong_here : of_its_size e.body.now ≡ false → checked_from rest (Err (WrongSize at)) e.next.at (drop e.next.at s) ≡ checked_from left good at (drop at s)
  unfolding first_wrong
  wrong_here f = rw f at (fault_more s at good more left rest one e h)

  pub wrong_more : (x : TapeFault) → checked_from rest (Err x) e.next.at (drop e.next.at s) ≡ checked_from left (Err x) at (drop at s)
  unfolding first_wrong
  wrong_more x = fault_more s at (Err x) more left rest one e h

-- one wanted field more, or none
pub none_allowed : (t : List ℕ) (left : ℕ) → left ≡ 0 → fields_from left t ≡ []
unfolding fields_from
none_allowed t left z = rw z

module _ (s : List ℕ) (at left : ℕ) where
  pub none_here : is_field (record_at (drop at s)) ≡ false → fields_from left (drop at s) ≡ []
  unfolding fields_from
  none_here e = go left
    where
      go : (k : ℕ) → fields_from k (drop at s) ≡ []
      go zero = refl
      go (suc k) = rw e

  module _ (e : Record) (h : FieldLies s at e) where
    pub unsized_here : of_its_size e.body.now ≡ false → fields_from left (drop at s) ≡ []
    unfolding fields_from
    unsized_here f = go left
      where
        go : (k : ℕ) → fields_from k (drop at s) ≡ []
        go zero = refl
        go (suc k) = rw (h.is, h.body, f)

    pub field_more : of_its_size e.body.now ≡ true → (left ≡ 0 → ⊥) → fields_from left (drop at s) ≡ field_in e.body.now ∷ fields_from (left - 1) (drop e.next.at s)
    unfolding fields_from
    field_more f z = go left z
      where
        go : (k : ℕ) → (k ≡ 0 → ⊥) → fields_from k (drop at s) ≡ field_in e.body.now ∷ fields_from (k - 1) (drop e.next.at s)
        go zero z = absurd (z refl)
        go (suc k) z = let y : suc k - 1 ≡ k = omega arith in rw (h.is, h.body, f, drop-drop (whole_length (drop at s)) at s, ← h.past, y)

    pub field_fewer : of_its_size e.body.now ≡ true → (left ≡ 0 → ⊥) → length (fields_from (left - 1) (drop e.next.at s)) < length (fields_from left (drop at s))
    field_fewer f z = omega (arith, ap length (field_more f z))

pub some_body : (b : List ℕ) → of_its_size b ≡ true → 1 ≤ length b
unfolding of_its_size
some_body b e = omega (arith, eqb-true (length b) (1 + bytes_of (blocks (arg b 0))) e)

pub body_rest : (b : List ℕ) → take (length b - 1) (drop 1 b) ≡ drop 1 b
body_rest b = take_all (length b - 1) (drop 1 b) (omega (arith, length-drop 1 b))

-- the body of a field's record is not empty, and has its status
fits_in_lem : (x : Found) → is_field x ≡ true → of_its_size (body_of x) ≡ true → (T (exists (arg (body_of x) 0))) × (length (drop 1 (body_of x)) ≡ bytes_of (blocks (arg (body_of x) 0)))
unfolding is_field of_its_size body_of
fits_in_lem (whole k b) e s = (
  true-told (exists (arg b 0)) (both_right (eqb k 0x21) (exists (arg b 0)) e),
  omega (arith, length-drop 1 b, eqb-true (length b) (1 + bytes_of (blocks (arg b 0))) s),
)
fits_in_lem cut e s = absurd (false≢true e)

-- whatever the tape, the fields taken from it fit
pub all_fit : (n : ℕ) (t : List ℕ) → FieldsFit (fields_from n t)
unfolding fields_from
all_fit zero t = tt
all_fit (suc n) t = go (is_field (record_at t)) (of_its_size (body_of (record_at t))) refl refl (all_fit n (drop (whole_length t) t))
  where
    go : (p q : Bool) → is_field (record_at t) ≡ p → of_its_size (body_of (record_at t)) ≡ q → FieldsFit (fields_from n (drop (whole_length t) t))
        → FieldsFit (pick (both p q) (field_in (body_of (record_at t)) ∷ fields_from n (drop (whole_length t) t)) [])
    go true true e s h = ((fits_in_lem (record_at t) e s).0, (fits_in_lem (record_at t) e s).1, h)
    go true false e s h = tt
    go false q e s h = tt

pub all_few : (n : ℕ) (t : List ℕ) → length (fields_from n t) ≤ n
unfolding fields_from
all_few zero t = omega arith
all_few (suc n) t = go (both (is_field (record_at t)) (of_its_size (body_of (record_at t)))) (all_few n (drop (whole_length t) t))
  where
    go : (p : Bool) → length (fields_from n (drop (whole_length t) t)) ≤ n → length (pick p (field_in (body_of (record_at t)) ∷ fields_from n (drop (whole_length t) t)) []) ≤ suc n
    go true h = omega arith
    go false h = omega arith

pub fits-at : (fs : List Field) (g : ℕ) → FieldsFit fs → g < length fs → length (get_or fs g no_field).bytes ≡ 16 * blocks (get_or fs g no_field).status
fits-at [] g F h = absurd (not-suc-le-zero h)
fits-at (f ∷ fs) zero F h = F.1
fits-at (f ∷ fs) (suc g) F h = fits-at fs g F.2 (le_of_suc-le-suc h)

-- the first k wanted fields
fewer : (k n : ℕ) (t : List ℕ) → k ≤ n → fields_from k t ≡ take k (fields_from n t)
unfolding fields_from
fewer zero n t h = refl
fewer (suc k) zero t h = absurd (not-suc-le-zero h)
fewer (suc k) (suc n) t h = go (both (is_field (record_at t)) (of_its_size (body_of (record_at t)))) (fewer k n (drop (whole_length t) t) (le_of_suc-le-suc h))
  where
    go : (p : Bool) → fields_from k (drop (whole_length t) t) ≡ take k (fields_from n (drop (whole_length t) t))
        → pick p (field_in (body_of (record_at t)) ∷ fields_from k (drop (whole_length t) t)) [] ≡ take (suc k) (pick p (field_in (body_of (record_at t)) ∷ fields_from n (drop (whole_length t) t)) [])
    go true e = rw e
    go false e = refl

pub first_of : (k : ℕ) (s : List ℕ) → fields_from (min k 256) (drop 8 s) ≡ take k (wish_of s).fields
unfolding wish_of
first_of k s = go (dec_lt k 256)
  where
    go : Dec (k < 256) → fields_from (min k 256) (drop 8 s) ≡ take k (fields_from 256 (drop 8 s))
    go (yes h) = let e : min k 256 ≡ k = omega arith in rw e (fewer k 256 (drop 8 s) (omega arith))
    go (no h) = let e : min k 256 ≡ 256 = omega arith in rw e (sym (take_all k (fields_from 256 (drop 8 s)) (omega (arith, all_few 256 (drop 8 s)))))

pub all_of : (s : List ℕ) → take 256 (wish_of s).fields ≡ (wish_of s).fields
unfolding wish_of
all_of s = take_all 256 (fields_from 256 (drop 8 s)) (all_few 256 (drop 8 s))

-- wanted field i, by its place among them
placed : (fs : List Field) (i : ℕ) (f : Field) → Some f ≡ slice_get fs i → (i < length fs) × (get_or fs i no_field ≡ f)
placed [] i f e = absurd cc
placed (g ∷ fs) zero f e = (omega arith, cc)
placed (g ∷ fs) (suc i) f e = let h = placed fs i f e in (omega (arith, h.0), h.1)

past_all : (fs : List Field) (i : ℕ) → None ≡ slice_get fs i → length fs ≤ i
past_all [] i e = omega arith
past_all (g ∷ fs) zero e = absurd cc
past_all (g ∷ fs) (suc i) e = omega (arith, past_all fs i e)

pub few_bytes : (l : Wish) (i : ℕ) → FieldsFit l.fields → i < length l.fields → length (wanted l i).bytes ≤ most_count
unfolding blocks
few_bytes l i F h = omega (arith, fits-at l.fields i F h)

pub finds : (s : List ℕ) (i : ℕ) (r : Option Wanted) → option_map field_as r ≡ slice_get (wish_of s).fields i → Finds (wish_of s) i r
unfolding wish_of
finds s i None e = past_all (wish_of s).fields i e
finds s i (Some w) e =
    let l = wish_of s in
    let h = placed l.fields i (field_as w) e in
    record {
      there = h.0;
      is = h.1;
      few = rw h.1 at (few_bytes l i (all_fit 256 (drop 8 s)) h.0);
      low = omega (arith, h.0, all_few 256 (drop 8 s));
    }
