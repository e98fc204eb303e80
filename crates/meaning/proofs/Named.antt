-- Each accepted deletion named the stored status, all bits but bit 7 (02, Req 02). Assumes nothing.
use Prim.Native.Nat.{ℕ, ◌+◌, ◌*◌, ◌/◌, ◌%◌, ◌^◌, ◌<◌}
use mathlib.Core.Path.{◌≡◌, refl, sym, ap, ◌∙◌}
use mathlib.Core.Logic.{◌≢◌}
use mathlib.Core.Bool.{Bool, true, false, not, false≢true}
use mathlib.Core.List.{List, ◌∷◌}
use native.Mathlib.Omega.{arith}
use lib.Dec.{T, T_not, eqb, eqb→eq, ltb→lt, lit<}
use lib.ListN.{length, get_or}
use lib.Pow.{mod-pow-add, field, mod-mod-pow}
use Rattle.meaning.specs.Bytes.{arg, differ}
use Rattle.meaning.specs.State.{Plate, State}
use Rattle.meaning.specs.Fields.{blocks, coded, code_no, writable, exists, attributes, table, field_count, status_at, survey}
use Rattle.meaning.specs.Commands.{c4d, command_of, row, length_fits, asked, delete, shape_field, worked}
use Rattle.meaning.specs.Characters.{Frame}
use Rattle.meaning.specs.Frames.{data_of, work}
use Rattle.meaning.specs.Run.{Heard}
use Rattle.meaning.specs.Ledger.{Names, DeletedByName, DeletionsNamed}
use Rattle.meaning.specs.Demands.{AllButBit7}
use Rattle.meaning.proofs.Cases.{neqb→neq}
use Rattle.meaning.proofs.Tables.{existing-at}
use Rattle.meaning.proofs.Invariant.{Inv, count-tb}
use Rattle.meaning.proofs.Steps.{same_of, arg-said}
use Rattle.meaning.proofs.Choices.{choose_by}
use Rattle.meaning.proofs.Accepted.{Only, passed, only_where, accepted_so, stored_said, ever}

-- two bits that are told alike are alike
one_bit : (x y : ℕ) → x < 2 → y < 2 → eqb x 1 ≡ eqb y 1 → x ≡ y
one_bit x y l k e = go (eqb x 1) (eqb y 1) (eqb→eq x 1) (eqb→eq y 1) (neqb→neq x 1) (neqb→neq y 1) e
  where
    go : (q u : Bool) → (T q → x ≡ 1) → (T u → y ≡ 1) → (T (not q) → x ≢ 1) → (T (not u) → y ≢ 1) → q ≡ u → x ≡ y
    go true true f g n o e = f tt ∙ sym (g tt)
    go true false f g n o e = absurd (false≢true (sym e))
    go false true f g n o e = absurd (false≢true e)
    go false false f g n o e = omega (arith, n tt, o tt)

-- numbers that are alike in their low bits are alike in each run of those
same-run : (i j k a b : ℕ) → a % 2 ^ (i + (j + k)) ≡ b % 2 ^ (i + (j + k)) → a / 2 ^ k % 2 ^ j ≡ b / 2 ^ k % 2 ^ j
same-run i j k a b e =
    sym (field a j k)
    ∙ ap (λ (x : ℕ). x / 2 ^ k) (sym (mod-mod-pow a i (j + k)) ∙ ap (λ (x : ℕ). x % 2 ^ (j + k)) e ∙ mod-mod-pow b i (j + k))
    ∙ field b j k

-- .. and alike in j bits more, if those are alike too
one_run-more : (j k a b : ℕ) → a / 2 ^ k % 2 ^ j ≡ b / 2 ^ k % 2 ^ j → a % 2 ^ k ≡ b % 2 ^ k → a % 2 ^ (j + k) ≡ b % 2 ^ (j + k)
one_run-more j k a b h l =
    mod-pow-add a j k ∙ ap (λ (x : ℕ). x * 2 ^ k + a % 2 ^ k) h ∙ ap (λ (x : ℕ). b / 2 ^ k % 2 ^ j * 2 ^ k + x) l ∙ sym (mod-pow-add b j k)

-- bits 0 to 6 are size, code wanted, code number and write-enabled
pub all_but_bit_7 : AllButBit7
unfolding attributes blocks coded code_no writable
all_but_bit_7 a b = (
  λ e. record {
    size = ap (λ (x : ℕ). x + 1) (sym (mod-mod-pow a 4 3) ∙ ap (λ (x : ℕ). x % 8) e ∙ mod-mod-pow b 4 3);
    code_wanted = ap (λ (x : ℕ). eqb x 1) (same-run 3 1 3 a b e);
    code_number = same-run 1 2 4 a b e;
    write_enabled = ap (λ (x : ℕ). eqb x 1) (same-run 0 1 6 a b e);
  },
  λ k.
      let c : a / 8 % 2 ≡ b / 8 % 2 = one_bit (a / 8 % 2) (b / 8 % 2) (omega arith) (omega arith) k.code_wanted in
      let w : a / 64 % 2 ≡ b / 64 % 2 = one_bit (a / 64 % 2) (b / 64 % 2) (omega arith) (omega arith) k.write_enabled in
      one_run-more 1 6 a b w (one_run-more 2 4 a b k.code_number (one_run-more 1 3 a b c (omega (arith, k.size)))),
)

module _ (p : Plate) (s : State) (m : List ℕ) (t : List Heard) (I : Inv p s m t) (b : List ℕ) where
  abbrev d : List ℕ
  d = data_of b

  abbrev tb : List ℕ
  tb = table p.total m

  -- if it deletes, it named the field
  abbrev Named : Type 0
  Named = T (not (exists (get_or b 3 0))) → Names t (get_or b 2 0) (get_or b 3 0)

  module _ (long : length d ≡ 3) where
    a₁ : arg d 1 ≡ get_or b 3 0
    a₁ = arg-said p s m t I b 1 (omega arith)

    -- what sets bit 7 is no deletion
    no_deletion : T (exists (arg d 1)) → Named
    no_deletion ex gone = absurd (T_not (exists (get_or b 3 0)) gone (rw a₁ at ex))

    names : arg d 0 < field_count tb → T (not (differ (attributes (arg d 1)) (attributes (status_at tb (arg d 0))))) → Named
    names l alike gone =
        let st = stored_said p s m t I b (omega arith) l in
        record {
          there = rw (← arg-said p s m t I b 0 (omega arith), I.statuses (arg d 0)) (existing-at I.sts (arg d 0) I.existing (omega (arith, l, count-tb p s m t I)));
          alike = ap attributes (sym a₁) ∙ same_of (attributes (arg d 1)) (attributes (status_at tb (arg d 0))) alike ∙ ap attributes st;
        }

    named_4d : Only Named (worked c4d p s m d)
    unfolding worked shape_field survey delete
    named_4d = passed Named _ _ _ (λ _. only_where Named _ _ _ no_deletion (λ _. choose_by (Only Named) _ _ _
        (λ q. passed Named _ _ _ (λ _. passed Named _ _ _ (λ alike. passed Named _ _ _ (λ _. names (ltb→lt (arg d 0) (field_count tb) q) alike))))
        (λ _. tt)))

named-frame : (p : Plate) (s : State) (m : List ℕ) (t : List Heard) → Inv p s m t → DeletedByName t → (b : Frame)
    → DeletedByName (record { asked = b.bytes; answered = (work p s m b).reply } ∷ t)
unfolding command_of asked row length_fits
named-frame p s m t I h b = (
  accepted_so p s m b 0x4D (Named p s m t I b.bytes) (lit< tt) (λ e. omega arith) c4d refl
      (λ l. named_4d p s m t I b.bytes (eqb→eq (length (data_of b.bytes)) 3 l)),
  h,
)

-- 02, Req 02: an accepted deletion named the stored status, all bits but bit 7
pub deletions_named : DeletionsNamed
deletions_named = ever DeletedByName named-frame tt
