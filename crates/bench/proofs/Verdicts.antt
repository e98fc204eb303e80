-- What a verdict of the bench says of request and reply. Each takes the contract of `judge` as it stands. Assumes nothing.
use mathlib.Core.Path.{◌≡◌, refl, sym, ap, ◌∙◌, subst}
use mathlib.Core.Logic.{◌≢◌}
use mathlib.Core.Bool.{Bool, true, false, not}
use mathlib.Core.List.{List, []}
use Prim.Native.Nat.{ℕ, ◌+◌, ◌-◌, ◌<◌, ◌≤◌}
use native.Mathlib.Omega.{arith}
use lib.Dec.{T}
use lib.ListN.{length, get_or, set, take, drop}
use Rattle.std.specs.Prelude.{Ok, Err}
use Rattle.meaning.specs.Bytes.{part}
use Rattle.meaning.specs.Frames.{command_byte, data_of}
use Rattle.meaning.specs.Bench.{judge, piece_of, handed}
use Rattle.meaning.specs.Bench as meaning
use Rattle.meaning.specs.Demands.{accepts, Fit, FitDone, FitFailed, Grounds}
use Rattle.meaning.proofs.Fitting.{only_if_fits, no_reply_to_53}
use Rattle.meaning.proofs.Bytewise.{one_byte_changed}
use Rattle.bench.specs.Outcomes.{Judging, verdict_of, without_data, piece_from, piece_by}
use Rattle.bench.specs.declared.reply.Piece.{Piece}
use Rattle.bench.specs.declared.reply.Verdict.TheVariants.{Done, DoneWithWarning, Error, ErrorWithWarning}

accepts-same : (v : meaning.Verdict) → accepts (without_data v) ≡ accepts v
unfolding accepts
accepts-same (meaning.refusal n) = refl
accepts-same (meaning.done w d) = refl
accepts-same (meaning.failed w e) = refl

-- what a verdict stands on: of a reply that is done its command, length and repeated bytes; of an error its command, length and code
abbrev pub Standing : List ℕ → List ℕ → meaning.Verdict → Type 0
Standing q r (meaning.refusal n) = Unit
Standing q r (meaning.done w d) = FitDone q r w (data_of r)
Standing q r (meaning.failed w e) = FitFailed q r w e

standing_of : (q r : List ℕ) (v : meaning.Verdict) → Grounds q r v → Standing q r (without_data v)
standing_of q r (meaning.refusal n) g = g
standing_of q r (meaning.done w d) g = subst (λ (x : List ℕ). FitDone q r w x) g.part g
standing_of q r (meaning.failed w e) g = g

fit_of : (q r : List ℕ) (v : meaning.Verdict) → Grounds q r v → T (accepts v) → Fit q r
unfolding accepts
fit_of q r (meaning.refusal n) g h = absurd h
fit_of q r (meaning.done w d) g h = g.fit
fit_of q r (meaning.failed w e) g h = g.fit

module _ (q r : List ℕ) (v : Judging) (e : verdict_of v ≡ without_data (judge q r)) where
  accepted : T (accepts (verdict_of v)) → T (accepts (judge q r))
  accepted h = subst T (ap accepts e ∙ accepts-same (judge q r)) h

  -- only a reply that fits the request is accepted
  pub verdict-stands : Standing q r (verdict_of v)
  verdict-stands = subst (λ (u : meaning.Verdict). Standing q r u) (sym e) (standing_of q r (judge q r) (only_if_fits q r))

  -- of any accepted reply: length, checksum, address
  pub accepted-fits : T (accepts (verdict_of v)) → Fit q r
  accepted-fits h = fit_of q r (judge q r) (only_if_fits q r) (accepted h)

  -- and with any one byte of it changed it is refused
  pub changed_refused : (i x : ℕ) (w : Judging) → verdict_of w ≡ without_data (judge q (set r i x))
      → i < length r → T (accepts (verdict_of v)) → x ≢ get_or r i 0 → T (not (accepts (verdict_of w)))
  changed_refused i x w f l h n =
      subst (λ (b : Bool). T (not b)) (sym (ap accepts f ∙ accepts-same (judge q (set r i x)))) (one_byte_changed q r i x l (accepted h) n)

-- ---- the piece that is handed back

piece_same : (r : List ℕ) (v : meaning.Verdict) → piece_of r (without_data v) ≡ piece_of r v
unfolding piece_of
piece_same r (meaning.refusal n) = refl
piece_same r (meaning.done w d) = refl
piece_same r (meaning.failed w e) = refl

spans : {p : Piece} {n : ℕ} → 3 ≤ n → piece_from p ≡ (record { from = 2; count = n - 3 }) → p.from + p.count ≤ n
spans h e = omega (arith, ap (λ (x : meaning.Piece). x.from) e, ap (λ (x : meaning.Piece). x.count) e)

-- .. by the code's verdict
piece_told : (r : List ℕ) (v : Judging) → piece_of r (verdict_of v) ≡ piece_by (length r) v
unfolding piece_of
piece_told r (Ok Done) = refl
piece_told r (Ok DoneWithWarning) = refl
piece_told r (Ok (Error x)) = refl
piece_told r (Ok (ErrorWithWarning x)) = refl
piece_told r (Err b) = refl

module _ (q r : List ℕ) (v : Judging) (e : verdict_of v ≡ without_data (judge q r)) where
  pub handed_by : handed q r ≡ piece_by (length r) v
  unfolding handed
  handed_by = sym (piece_same r (judge q r)) ∙ ap (piece_of r) (sym e) ∙ piece_told r v

  -- it lies within the reply
  pub piece_within : (p : Piece) → piece_from p ≡ piece_by (length r) v → p.from + p.count ≤ length r
  unfolding accepts
  piece_within p h = go v (λ k. (accepted-fits q r v e k).long) h
    where
      go : (u : Judging) → (T (accepts (verdict_of u)) → 3 ≤ length r) → piece_from p ≡ piece_by (length r) u → p.from + p.count ≤ length r
      go (Ok Done) k h = spans (k tt) h
      go (Ok DoneWithWarning) k h = spans (k tt) h
      go (Ok (Error x)) k h = spans (k tt) h
      go (Ok (ErrorWithWarning x)) k h = spans (k tt) h
      go (Err b) k h = omega (arith, ap (λ (x : meaning.Piece). x.from) h, ap (λ (x : meaning.Piece). x.count) h)

-- a part from its start up to its end
pub cut_out : (r : List ℕ) (f n : ℕ) → take (f + n - f) (drop f r) ≡ part r f n
unfolding part
cut_out r f n = let k : f + n - f ≡ n = omega arith in rw k

-- the piece of a reply that is done is its data
pub handed_data : (q r : List ℕ) (w : Bool) (d : List ℕ) → judge q r ≡ meaning.done w d → part r (handed q r).from (handed q r).count ≡ d
unfolding handed piece_of part data_of
handed_data q r w d e = rw e (sym (subst (λ (v : meaning.Verdict). Grounds q r v) e (only_if_fits q r)).part)

-- ---- 53h has no reply (000, "Encoder Reset"): no verdict on a reply to it is done

abbrev is_done : meaning.Verdict → Bool
is_done (meaning.refusal n) = false
is_done (meaning.done w d) = true
is_done (meaning.failed w e) = false

pub reset-never-done : (q r : List ℕ) (v : Judging) → verdict_of v ≡ without_data (judge q r) → command_byte q ≡ 0x53
    → (w : Bool) → verdict_of v ≢ meaning.done w []
reset-never-done q r v e c w f = go (judge q r) refl (subst T (sym (ap is_done (sym e ∙ f))) tt)
  where
    go : (u : meaning.Verdict) → judge q r ≡ u → T (is_done (without_data u)) → ⊥
    go (meaning.refusal n) k h = h
    go (meaning.done x d) k h = no_reply_to_53 q r x d c k
    go (meaning.failed x n) k h = h
