-- How the rows 4Ch and 4Eh end, and what a known answer leaves. Assumes nothing.
use Prim.Native.Nat.{ℕ, ◌+◌, ◌≤◌}
use mathlib.Core.Bool.{Bool, true, false, not}
use mathlib.Core.Path.{◌≡◌, refl, sym, ap, ◌∙◌}
use mathlib.Core.List.{List, [], ◌∷◌}
use lib.ListN.{length}
use lib.Dec.{leb, eqb}
use borrow.Author.Tests.{eqb-true, leb-true}
use Rattle.std.specs.Prelude.{Ok, Err, IsErrAnd}
use Rattle.std.proofs.lemmas.Result.{err_from_is_err_and}
use Rattle.meaning.specs.Bytes.{arg, both}
use Rattle.meaning.specs.State.{Plate, State}
use Rattle.meaning.specs.Fields.{Survey, survey}
use Rattle.meaning.specs.Commands as meaning
use Rattle.meaning.specs.Commands.{asked, row, length_fits, refuse, accept, error, on_field, field_status, memory_status, free_byte, c4a, c4b, c4c, c4d}
use Rattle.wire.specs.declared.codes.ErrorCode.{ErrorCode}
use Rattle.wire.specs.Answers.{ToldAnswer, told, data_in, memory_after, Works}
use Rattle.fields.specs.Replies.{Replied}
use Rattle.fields.specs.Found.{FoundIn}
use Rattle.fields.specs.declared.find.Field.{Field}

-- an error code leaves all as it was
pub works-refuse : {a : meaning.Answer} {m w : List ℕ} {e : ErrorCode} → a ≡ refuse e.byte → Works a m w (Err e) m w
works-refuse {m = m} {w = w} q = record {
  answer = ap told (sym q);
  memory = ap (λ (x : meaning.Answer). memory_after x m) (sym q);
  room = ap (λ (x : meaning.Answer). data_in x w) (sym q);
}

-- .. and so does one that is passed on
pub works-passed : {a : meaning.Answer} {m w : List ℕ} (r : ToldAnswer) (e : ErrorCode) → IsErrAnd r (λ x. x ≡ e) → a ≡ refuse e.byte → Works a m w r m w
works-passed r e k q =
    let p = err_from_is_err_and r k in
    rw (p.1, p.2) (works-refuse q)

-- reply data stands in the room
pub works-accept : {a : meaning.Answer} {m w d : List ℕ} {s : State} {m₂ : List ℕ} {r : ToldAnswer} {w₂ : List ℕ} → a ≡ accept d s m₂ → Replied d w r w₂ → Works a m w r m₂ w₂
works-accept {m = m} {w = w} q y = record {
  answer = y.answer ∙ ap told (sym q);
  memory = ap (λ (x : meaning.Answer). memory_after x m) (sym q);
  room = y.room ∙ ap (λ (x : meaning.Answer). data_in x w) (sym q);
}

-- the length of the request's data
pub asked_4a : (d : List ℕ) → asked c4a d ≡ true → length d ≡ 4
unfolding asked row length_fits
asked_4a d e = eqb-true (length d) 4 e

pub asked_4c : (d : List ℕ) → asked c4c d ≡ true → length d ≡ 1
unfolding asked row length_fits
asked_4c d e = eqb-true (length d) 1 e

pub asked_4d : (d : List ℕ) → asked c4d d ≡ true → length d ≡ 3
unfolding asked row length_fits
asked_4d d e = eqb-true (length d) 3 e

all_three : (a b c : Bool) → both a (both b c) ≡ true → (a ≡ true) × (b ≡ true) × (c ≡ true)
all_three true true c e = (refl, refl, e)
all_three true false c e = (refl, e, cc)
all_three false b c e = (e, cc, cc)

pub asked_4b : (d : List ℕ) → asked c4b d ≡ true → (5 ≤ length d) × (length d ≤ 132) × (length d ≡ 4 + arg d 2)
unfolding asked row length_fits
asked_4b d e =
    let k = all_three (leb 5 (length d)) (leb (length d) 132) (eqb (length d) (4 + arg d 2)) e in
    (leb-true 5 (length d) k.0, leb-true (length d) 132 k.1, eqb-true (length d) (4 + arg d 2) k.2)

module _ (p : Plate) (s : State) (m d : List ℕ) where
  -- 4Ch
  abbrev v : Survey
  v = survey p.total m (arg d 0)

  status_of_lem : field_status p s m d ≡ on_field v (arg d 0) (accept (arg d 0 ∷ v.status ∷ []) s m)
  unfolding field_status
  status_of_lem = refl

  pub status-refused : (e : ErrorCode) → FoundIn p.total m (arg d 0) (Err e) → field_status p s m d ≡ refuse e.byte
  status-refused e w = status_of_lem ∙ w.chain _

  pub status-told : (field : Field) → FoundIn p.total m (arg d 0) (Ok field) → field_status p s m d ≡ accept (arg d 0 ∷ field.status ∷ []) s m
  status-told field w = status_of_lem ∙ w.chain _ ∙ ap (λ (x : ℕ). accept (arg d 0 ∷ x ∷ []) s m) (sym w.place.status)

  -- 4Eh, whatever field the survey was made for
  memory_of : (f : ℕ) → memory_status p s m d
      ≡ error 0x03 (not (survey p.total m f).trusted) (accept (free_byte (survey p.total m f).free ∷ (survey p.total m f).fields ∷ []) s m)
  unfolding memory_status survey
  memory_of f = refl

  module _ (f : ℕ) (v : Survey) (q : v ≡ survey p.total m f) where
    at-survey : memory_status p s m d ≡ error 0x03 (not v.trusted) (accept (free_byte v.free ∷ v.fields ∷ []) s m)
    at-survey = memory_of f ∙ ap (λ (x : Survey). error 0x03 (not x.trusted) (accept (free_byte x.free ∷ x.fields ∷ []) s m)) (sym q)

    pub memory_unsound : v.trusted ≡ false → memory_status p s m d ≡ refuse 0x03
    unfolding error
    memory_unsound h = at-survey ∙ ap (λ (b : Bool). error 0x03 (not b) (accept (free_byte v.free ∷ v.fields ∷ []) s m)) h

    pub memory-told : v.trusted ≡ true → memory_status p s m d ≡ accept (free_byte v.free ∷ v.fields ∷ []) s m
    unfolding error
    memory-told h = at-survey ∙ ap (λ (b : Bool). error 0x03 (not b) (accept (free_byte v.free ∷ v.fields ∷ []) s m)) h
