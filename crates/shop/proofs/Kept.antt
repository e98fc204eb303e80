-- The fields that are made already, with their bytes; and the status with bit 6 set. Assumes nothing.
use Prim.Native.Nat.{ℕ, zero, suc, ◌+◌, ◌*◌, ◌/◌, ◌%◌, ◌≤◌, ◌<◌}
use mathlib.Core.Path.{◌≡◌, refl, sym, ap, ◌∙◌}
use mathlib.Core.Bool.{Bool, true, false, not}
use mathlib.Core.List.{List, [], ◌∷◌, ◌++◌}
use native.Mathlib.Omega.{arith}
use native.Mathlib.Nat.{not-suc-le-zero}
use native.Mathlib.Decide.{dec_lt}
use lib.Dec.{T, eqb, leb, leb→le, le→leb}
use lib.ListN.{length, get_or, take, length-append, get_or-append}
use lib.Seq.{take-length, take-append-le, take_at, get_or-append_seam}
use Rattle.meaning.specs.Bytes.{pick}
use Rattle.meaning.specs.Fields.{blocks, code_no, writable, exists, used}
use Rattle.meaning.proofs.Cases.{eq→eqb, neqb→neq}
use Rattle.meaning.proofs.Tables.{used-before}
use Rattle.programmer.specs.Wishes.{Field, no_field}
use Rattle.programmer.specs.Steps.{enabled}
use Rattle.shop.proofs.Laid.{Laid}

abbrev pub statuses : List Field → List ℕ
statuses [] = []
statuses (f ∷ fs) = f.status ∷ statuses fs

pub statuses-length : (fs : List Field) → length (statuses fs) ≡ length fs
statuses-length [] = refl
statuses-length (f ∷ fs) = ap suc (statuses-length fs)

pub statuses-at : (fs : List Field) (g : ℕ) → get_or (statuses fs) g 0 ≡ (get_or fs g no_field).status
statuses-at [] g = refl
statuses-at (f ∷ fs) zero = refl
statuses-at (f ∷ fs) (suc g) = statuses-at fs g

pub statuses_snoc : (fs : List Field) (f : Field) → statuses (fs ++ (f ∷ [])) ≡ statuses fs ++ (f.status ∷ [])
statuses_snoc [] f = refl
statuses_snoc (x ∷ fs) f = ap (λ (l : List ℕ). x.status ∷ l) (statuses_snoc fs f)

-- bit 6 set: the rest of the status is the same
by_bit : (P : ℕ → Type 0) (st : ℕ) → (T (writable st) → P st) → (T (not (writable st)) → P (st + 64)) → P (enabled st)
unfolding enabled
by_bit P st y n = go (writable st) y n
  where
    go : (q : Bool) → (T q → P st) → (T (not q) → P (st + 64)) → P (pick q st (st + 64))
    go true y n = y tt
    go false y n = n tt

pub enabled-exists : (st : ℕ) → T (exists st) → T (exists (enabled st))
unfolding exists
enabled-exists st h = by_bit (λ (x : ℕ). T (leb 128 x)) st (λ w. h) (λ w. le→leb 128 (st + 64) (omega (arith, leb→le 128 st h)))

pub enabled-blocks : (st : ℕ) → blocks (enabled st) ≡ blocks st
unfolding blocks
enabled-blocks st = by_bit (λ (x : ℕ). x % 8 + 1 ≡ st % 8 + 1) st (λ w. refl) (λ w. omega arith)

pub enabled-code : (st : ℕ) → code_no (enabled st) ≡ code_no st
unfolding code_no
enabled-code st = by_bit (λ (x : ℕ). x / 16 % 4 ≡ st / 16 % 4) st (λ w. refl) (λ w. omega arith)

pub enabled-writable : (st : ℕ) → T (writable (enabled st))
unfolding writable
enabled-writable st =
    by_bit (λ (x : ℕ). T (eqb (x / 64 % 2) 1)) st (λ w. w)
    (λ w. eq→eqb ((st + 64) / 64 % 2) 1 (omega (arith, other (st / 64 % 2) (neqb→neq (st / 64 % 2) 1 w) (omega arith))))
  where
    other : (n : ℕ) → (n ≡ 1 → ⊥) → n < 2 → n ≡ 0
    other zero h l = refl
    other (suc zero) h l = absurd (h refl)
    other (suc (suc n)) h l = absurd (omega arith)

-- the fields made, with their bytes
pub record Kept (t : ℕ) (m : List ℕ) (fs : List Field) : Type 0 where
  pub laid : Laid t m (statuses fs)
  pub bytes : (g i : ℕ) → g < length fs → i < 16 * blocks (get_or fs g no_field).status
      → get_or m (16 * used (take g (statuses fs)) + i) 0 ≡ get_or (get_or fs g no_field).bytes i 0

pub kept-none : (t : ℕ) (m : List ℕ) → Laid t m [] → Kept t m []
kept-none t m I = record { laid = I; bytes = λ g i l k. absurd (not-suc-le-zero l) }

-- one more
pub kept_more : (t : ℕ) (m : List ℕ) (fs : List Field) (f : Field) (m' : List ℕ) → Kept t m fs → Laid t m' (statuses fs ++ (f.status ∷ []))
    → ((j : ℕ) → j < 16 * used (statuses fs) → get_or m' j 0 ≡ get_or m j 0)
    → ((i : ℕ) → i < 16 * blocks f.status → get_or m' (16 * used (statuses fs) + i) 0 ≡ get_or f.bytes i 0)
    → Kept t m' (fs ++ (f ∷ []))
kept_more t m fs f m' K I low own = record {
  laid = rw (statuses_snoc fs f) I;
  bytes = λ g i l k. go g i (dec_lt g (length fs)) (rw (length-append fs (f ∷ [])) at l) k;
}
  where
    fs' : List Field
    fs' = fs ++ (f ∷ [])

    go : (g i : ℕ) → Dec (g < length fs) → g < length fs + 1 → i < 16 * blocks (get_or fs' g no_field).status
        → get_or m' (16 * used (take g (statuses fs')) + i) 0 ≡ get_or (get_or fs' g no_field).bytes i 0
    go g i (yes d) l k =
        let e : get_or fs' g no_field ≡ get_or fs g no_field = get_or-append fs (f ∷ []) no_field g d in
        let u : used (take g (statuses fs')) ≡ used (take g (statuses fs))
        = rw (statuses_snoc fs f) (ap used (take-append-le g (statuses fs) (f.status ∷ []) (omega (arith, statuses-length fs)))) in
        let c : used (take g (statuses fs)) + blocks (get_or (statuses fs) g 0) ≤ used (statuses fs)
        = rw take-length at (used-before (statuses fs) g (length (statuses fs)) K.laid.existing (rw (statuses-length fs) d) (omega arith)) in
        let k' : i < 16 * blocks (get_or fs g no_field).status = rw e at k in
        rw (u, e) (low (16 * used (take g (statuses fs)) + i) (omega (arith, ap blocks (statuses-at fs g))) ∙ K.bytes g i d k')
    go g i (no d) l k =
        let n : g ≡ length fs = omega arith in
        let e : get_or fs' g no_field ≡ f = rw n (get_or-append_seam fs f [] no_field) in
        let u : used (take g (statuses fs')) ≡ used (statuses fs)
        = rw (statuses_snoc fs f) (ap used (take_at (statuses fs) (f.status ∷ []) g (statuses-length fs ∙ sym n))) in
        rw (u, e) (own i (rw e at k))
