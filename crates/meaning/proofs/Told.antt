-- The bytes that 4Ah brings are those that the traffic tells. Assumes nothing.
use Prim.Native.Nat.{ℕ, ◌+◌, ◌-◌, ◌*◌, ◌≤◌, ◌<◌}
use mathlib.Core.Path.{◌≡◌, ap, ◌∙◌}
use mathlib.Core.Bool.{Bool, not}
use mathlib.Core.List.{List}
use native.Mathlib.Omega.{arith}
use lib.Dec.{T, leb, ltb, nleb→lt, nltb→le}
use lib.ListN.{length, get_or, take, drop}
use lib.Seq.{get_or-take, get_or-drop}
use Rattle.meaning.specs.Bytes.{arg, part}
use Rattle.meaning.specs.State.{Plate, State}
use Rattle.meaning.specs.Fields.{blocks, table, used, field_count, status_at, survey}
use Rattle.meaning.specs.Commands.{Answer, error, on_field, read_field}
use Rattle.meaning.specs.Run.{run, Heard, traffic}
use Rattle.meaning.specs.Ledger.{byte_of, BringsTold, ReadsByTraffic}
use Rattle.meaning.proofs.Invariant.{Inv, count-tb, status-tb, first-tb}
use Rattle.meaning.proofs.Choices.{through}
use Rattle.meaning.proofs.Whole.{run_inv}

module _ (p : Plate) (s : State) (m : List ℕ) (t : List Heard) (I : Inv p s m t) (d : List ℕ) where
  abbrev tb : List ℕ
  tb = table p.total m

  abbrev f : ℕ
  f = arg d 0

  abbrev o : ℕ
  o = arg d 1

  abbrev k : ℕ
  k = arg d 2

  place : T (not (leb (field_count tb) f)) → T (not (ltb (16 * blocks (status_at tb f)) (o + k)))
      → (i : ℕ) → i < k → get_or (part m (16 * used (take f tb) + o) k) i 0 ≡ byte_of t f (o + i)
  unfolding part
  place b x i l =
      let low : f < length I.sts = omega (arith, nleb→lt (field_count tb) f b, count-tb p s m t I) in
      let size : o + k ≤ 16 * blocks (get_or I.sts f 0) = rw (ap blocks (status-tb p s m t I f low)) at (nltb→le (16 * blocks (status_at tb f)) (o + k) x) in
      let at : ℕ = 16 * used (take f tb) + o in
      let same : at + i ≡ 16 * used (take f I.sts) + (o + i) = omega (arith, first-tb p s m t I f (omega arith)) in
      get_or-take k (drop at m) i 0 l ∙ get_or-drop at m i 0 ∙ ap (λ (x : ℕ). get_or m x 0) same
      ∙ I.bytes f (o + i) low (omega (arith, size))

  brings : (s' : State) → BringsTold t d (read_field p s' m d)
  unfolding read_field on_field survey
  brings s' =
      let go : (e : ℕ) (q : Bool) (a : Answer) → (T (not q) → BringsTold t d a) → BringsTold t d (error e q a) = through (BringsTold t d) (λ e. tt) in
      go _ _ _ (λ a. go _ _ _ (λ b. go _ _ _ (λ c. go _ _ _ (λ n. go _ _ _ (λ x. place b x)))))

-- Demand 3: 4Ah's reply bytes are those that the traffic tells
pub reads_by_traffic : ReadsByTraffic
reads_by_traffic p gs s d = brings p (run p gs).state (run p gs).memory (traffic p gs) (run_inv p gs) d s
