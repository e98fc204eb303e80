-- What the end of a tape prints. Assumes nothing.
use Prim.Native.Nat.{ℕ, ◌≤◌}
use mathlib.Core.Path.{◌≡◌, refl, sym}
use mathlib.Core.List.{List, [], ◌∷◌}
use native.Mathlib.Nat.{add-zero}
use native.Mathlib.Omega.{arith}
use lib.ListN.{length}
use Rattle.std.specs.Prelude.{Option}
use Rattle.tape.specs.Text.{bad_line}
use Rattle.tape.specs.Passes.{closing}
use Rattle.tape.specs.Reader.{Printed}
use Rattle.tape.proofs.Outputs.{put-nil}
use Rattle.passes.specs.Sessions.{stage_in}
use Rattle.passes.specs.declared.session.Work.{Work}
use Rattle.passes.specs.declared.session.Phase.{Phase}
use Rattle.passes.specs.declared.session.Phase.TheVariants.{Opening, Running, Ended}

-- nothing is printed
pub no_text : {x : List ℕ} (out : List ℕ) (used : ℕ) → x ≡ [] → used ≤ length out → Printed x out used used out
no_text out used e h = rw e (record { next = sym (add-zero used); bytes = sym (put-nil out used); within = h })

module _ (f : Phase) (kept m : List ℕ) (place : ℕ) (t : List ℕ) where
  pub none_left : length t ≡ 0 → closing (stage_in f kept m) place t ≡ []
  unfolding closing
  none_left h = go f t h
    where
      go : (f : Phase) (t : List ℕ) → length t ≡ 0 → closing (stage_in f kept m) place t ≡ []
      go Opening [] h = refl
      go (Running k) [] h = refl
      go (Ended o) [] h = refl
      go f (x ∷ t) h = absurd (omega arith)

  pub was_ended : (o : Option Work) → f ≡ Ended o → closing (stage_in f kept m) place t ≡ []
  unfolding closing
  was_ended o e = rw e

  pub cut_off : ((o : Option Work) → f ≡ Ended o → ⊥) → (length t ≡ 0 → ⊥) → closing (stage_in f kept m) place t ≡ bad_line place
  unfolding closing
  cut_off k h = go f t k h
    where
      go : (f : Phase) (t : List ℕ) → ((o : Option Work) → f ≡ Ended o → ⊥) → (length t ≡ 0 → ⊥) → closing (stage_in f kept m) place t ≡ bad_line place
      go f [] k h = absurd (h refl)
      go Opening (x ∷ t) k h = refl
      go (Running w) (x ∷ t) k h = refl
      go (Ended o) (x ∷ t) k h = absurd (k o refl)
