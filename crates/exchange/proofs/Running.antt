-- The calls of `sending`, one after another: no gap, no reply, the bytes kept as they were sent; what is sent is Told. Assumes nothing.
use Prim.Native.Nat.{ℕ, zero, suc, ◌+◌, ◌%◌, ◌^◌, ◌<◌, ◌≤◌}
use mathlib.Core.Path.{◌≡◌, refl, sym, ap, ◌∙◌}
use mathlib.Core.Bool.{true, false}
use mathlib.Core.List.{List, [], ◌∷◌, ◌++◌}
use native.Mathlib.Omega.{arith}
use native.Mathlib.Nat.{mod-le, mod-eq_of_lt}
use lib.Dec.{T}
use lib.ListN.{length, take}
use lib.Seq.{take-suc, take-length, length-take-le}
use borrow.Author.Tests.{lt-ltb, lt-leb, le-leb}
use Rattle.meaning.specs.Bytes.{pick, arg}
use Rattle.meaning.specs.State.{Plate, State, none, with_line}
use Rattle.meaning.specs.Characters.{gap, full_pause, remaining, over, more, taken}
use Rattle.meaning.specs.Frames.{Outcome, still, resting, up_to}
use Rattle.meaning.specs.Run.{character, step, run_from, closes}
use Rattle.meaning.specs.Bench.{request}
use Rattle.meaning.proofs.Gaps.{over-is}
use Rattle.meaning.specs.Demands.{Sent, Told, spoken, calm, unbroken}
use Rattle.exchange.specs.Calls.{stamp_of, sending}
use Rattle.exchange.proofs.Stamps.{gap_of_spacing, stamp_low}

-- a character that closes nothing brings nothing and is taken in
pub character-waits : (p : Plate) (s : State) (m : List ℕ) (t v : ℕ) → over p s t ≡ false
    → step p s m (character t v false) ≡ (record { reply = []; state = taken s t v false; memory = m })
unfolding step up_to still
character-waits p s m t v e = rw e

-- what is kept of the frame that a character goes on with
abbrev pub kept_of : State → List ℕ
kept_of s = (pick s.line.begun s.line none).kept

-- of one that is begun, what it holds
pub kept-begun : (s : State) (vs : List ℕ) → s.line.begun ≡ true → kept_of s ≡ vs → s.line.kept ≡ vs
kept-begun s vs b e = rw b at e

kept_more : (s : State) (t v : ℕ) (vs : List ℕ) → kept_of s ≡ vs → length vs < 135 → kept_of (taken s t v false) ≡ vs ++ (v ∷ [])
unfolding taken with_line more
kept_more s t v vs e h = rw (e, lt-ltb (length vs) 135 h)

taken_rests : (s : State) (t v : ℕ) → resting (taken s t v false) ≡ resting s
unfolding resting taken with_line
taken_rests s t v = refl

-- the calls so far: no gap closed a frame, the request's bytes were said and are kept, memory and all else of the state are as before
pub record Runs (p : Plate) (s : State) (m : List ℕ) (tick spacing : ℕ) (q : List ℕ) (i : ℕ) : Type 0 where
  pub steady : T (unbroken p s m (sending tick spacing q i))
  pub said : spoken (sending tick spacing q i) ≡ take i q
  pub kept : kept_of (run_from p s m (sending tick spacing q i)).state ≡ take i q
  pub memory : (run_from p s m (sending tick spacing q i)).memory ≡ m
  pub rests : resting (run_from p s m (sending tick spacing q i)).state ≡ resting s
  pub waits : over p (run_from p s m (sending tick spacing q i)).state (stamp_of tick spacing i) ≡ false

-- a character one spacing after the last
near : (p : Plate) (s : State) (t v spacing : ℕ) → t < 2 ^ 32 → spacing < full_pause p → over p (taken s t v false) ((t + spacing) % 2 ^ 32) ≡ false
unfolding taken with_line more
near p s t v spacing low close =
    over-is p (taken s t v false) ((t + spacing) % 2 ^ 32) ∙ rw (gap_of_spacing t spacing low) (lt-leb (full_pause p) (spacing % 2 ^ 32) (omega (arith, mod-le spacing (2 ^ 32))))

module _ (p : Plate) (s : State) (m : List ℕ) (tick spacing : ℕ) (q : List ℕ) (idle : s.line.begun ≡ false) (low : tick < 2 ^ 32) (close : spacing < full_pause p) (short : length q ≤ 135) where
  runs_none : Runs p s m tick spacing q 0
  unfolding sending run_from unbroken spoken still none stamp_of over remaining
  runs_none = record { steady = tt; said = refl; kept = rw idle; memory = refl; rests = refl; waits = rw idle }

  runs-more : (i : ℕ) → suc i ≤ length q → Runs p s m tick spacing q i → Runs p s m tick spacing q (suc i)
  unfolding sending run_from unbroken spoken calm closes stamp_of
  runs-more i h r =
      let t : ℕ = stamp_of tick spacing i in
      let o : Outcome = run_from p s m (sending tick spacing q i) in
      let e = character-waits p o.state o.memory t (arg q i) r.waits in
      let l : length (take i q) ≡ i = length-take-le i q (omega arith) in
      record {
        steady = rw r.waits r.steady;
        said = rw r.said (sym (take-suc q i 0 (omega arith)));
        kept = rw e (kept_more o.state t (arg q i) (take i q) r.kept (omega arith) ∙ sym (take-suc q i 0 (omega arith)));
        memory = rw e r.memory;
        rests = rw e (taken_rests o.state t (arg q i) ∙ r.rests);
        waits = rw e (near p o.state t (arg q i) spacing (stamp_low tick spacing i low) close);
      }

  pub runs : (i : ℕ) → i ≤ length q → Runs p s m tick spacing q i
  runs zero h = runs_none
  runs (suc i) h = runs-more i h (runs i (omega arith))

  -- the board after the last of i characters has their frame open, with that one's stamp
  last_taken : (i : ℕ) → suc i ≤ length q
      → (run_from p s m (sending tick spacing q (suc i))).state
      ≡ taken (run_from p s m (sending tick spacing q i)).state (stamp_of tick spacing i) (arg q i) false
  unfolding sending run_from
  last_taken i h =
      let o : Outcome = run_from p s m (sending tick spacing q i) in
      ap (λ (x : Outcome). x.state) (character-waits p o.state o.memory (stamp_of tick spacing i) (arg q i) (runs i (omega arith)).waits)

  -- so a poll that comes one pause after it closes the frame
  pub pause-closes : (i : ℕ) → suc i ≤ length q → full_pause p < 2 ^ 32
      → over p (run_from p s m (sending tick spacing q (suc i))).state ((stamp_of tick spacing i + full_pause p) % 2 ^ 32) ≡ true
  unfolding taken with_line more
  pause-closes i h few =
      let g : gap (stamp_of tick spacing i) ((stamp_of tick spacing i + full_pause p) % 2 ^ 32) ≡ full_pause p
      = gap_of_spacing (stamp_of tick spacing i) (full_pause p) (stamp_low tick spacing i low) ∙ mod-eq_of_lt few in
      over-is p _ _ ∙ rw (last_taken i h, g) (le-leb (full_pause p) (full_pause p) (omega arith))

  pub begun_then : (i : ℕ) → suc i ≤ length q → (run_from p s m (sending tick spacing q (suc i))).state.line.begun ≡ true
  unfolding taken with_line more
  begun_then i h = rw (last_taken i h)

  -- Demand 2: what is sent is told
  pub sent-is-told : (a c : ℕ) (d : List ℕ) → q ≡ request a c d → Sent p s m a c d → Told p s m (sending tick spacing q (length q)) a c d
  sent-is-told a c d e w =
      let r = runs (length q) (omega arith) in
      record { idle = idle; sent = w; said = r.said ∙ take-length q ∙ e; steady = r.steady }
