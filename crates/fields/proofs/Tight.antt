-- No two differing outcomes satisfy a contract (01, "How tightly the contracts bind"). Assumes nothing.
use Prim.Native.Nat.{ℕ}
use mathlib.Core.Path.{◌≡◌, refl, sym, ◌∙◌}
use mathlib.Core.List.{List, []}
use Rattle.meaning.specs.State.{Plate, State, fresh, with_codes}
use Rattle.meaning.specs.Fields as meaning
use Rattle.meaning.specs.Commands.{Answer}
use Rattle.wire.specs.Answers as wire
use Rattle.wire.specs.Answers.{Works}
use Rattle.wire.proofs.Tight.{one_outcome}
use Rattle.fields.specs.Memory.{Saw, survey_of}
use Rattle.fields.specs.declared.seen.Survey.{Survey}

abbrev survey_back : ℕ × meaning.Survey → Survey
survey_back x = record { total = x.0; sound = x.1.trusted; fields = x.1.fields; free = x.1.free; first = x.1.first; status = x.1.status }

abbrev tells : Survey → ℕ × meaning.Survey
tells r = (r.total, survey_of r)

pub survey_tight : (t : ℕ) (m : List ℕ) (f : ℕ) (a b : Survey) → Saw t m f a → Saw t m f b → a ≡ b
survey_tight t m f a b p q = one_outcome tells survey_back (λ v. refl) (t, meaning.survey t m f) a b (cc) (cc)

-- no two differing outcomes satisfy a row's contract
pub works_tight : {a : Answer} {m w : List ℕ} {r r₂ : wire.ToldAnswer} {m₁ m₂ w₁ w₂ : List ℕ} → Works a m w r m₁ w₁ → Works a m w r₂ m₂ w₂ → (r ≡ r₂) × (m₁ ≡ m₂) × (w₁ ≡ w₂)
works_tight x y = (x.answer ∙ sym y.answer, x.memory ∙ sym y.memory, x.room ∙ sym y.room)

-- .. for every plate with these blocks and every state with these codes: there are such
pub field-row_tight : (row : Plate → State → Answer) (t : ℕ) (codes m w : List ℕ) (r r₂ : wire.ToldAnswer) (m₁ m₂ w₁ w₂ : List ℕ)
    → ((p : Plate) (s : State) → p.total ≡ t → s.codes ≡ codes → Works (row p s) m w r m₁ w₁)
    → ((p : Plate) (s : State) → p.total ≡ t → s.codes ≡ codes → Works (row p s) m w r₂ m₂ w₂) → (r ≡ r₂) × (m₁ ≡ m₂) × (w₁ ≡ w₂)
unfolding with_codes
field-row_tight row t codes m w r r₂ m₁ m₂ w₁ w₂ x y =
    let p : Plate = record { total = t; bits = 1; address = 0; ticks = 1; pause = 22; label = [] } in
    let s : State = with_codes (fresh p) codes in
    works_tight (x p s refl refl) (y p s refl refl)

-- .. for every memory that the survey is of: there is one
pub told-row_tight : (row : Plate → State → List ℕ → Answer) (v : meaning.Survey) (t : ℕ) (m : List ℕ) (f : ℕ) → v ≡ meaning.survey t m f → (w : List ℕ) (r r₂ : wire.ToldAnswer) (w₁ w₂ : List ℕ)
    → ((p : Plate) (s : State) (m : List ℕ) → v ≡ meaning.survey p.total m f → Works (row p s m) m w r m w₁)
    → ((p : Plate) (s : State) (m : List ℕ) → v ≡ meaning.survey p.total m f → Works (row p s m) m w r₂ m w₂) → (r ≡ r₂) × (w₁ ≡ w₂)
told-row_tight row v t m f e w r r₂ w₁ w₂ x y =
    let p : Plate = record { total = t; bits = 1; address = 0; ticks = 1; pause = 22; label = [] } in
    let k = works_tight (x p (fresh p) m e) (y p (fresh p) m e) in
    (k.0, k.2)
