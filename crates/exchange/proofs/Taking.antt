-- The loop of `send`: one character more is taken in. Assumes nothing.
use Prim.Native.Nat.{ℕ, suc, ◌+◌, ◌^◌, ◌<◌, ◌≤◌}
use mathlib.Core.Path.{◌≡◌, refl, sym, ap, ap₂, ◌∙◌}
use mathlib.Core.Bool.{false}
use mathlib.Core.List.{List, []}
use native.Mathlib.Omega.{arith}
use native.Mathlib.Numerals.{add-one}
use lib.ListN.{length, take}
use lib.Seq.{length-take-le}
use Rattle.meaning.specs.Bytes.{put, arg}
use Rattle.meaning.specs.State.{Plate, State}
use Rattle.meaning.specs.Frames.{Outcome, still}
use Rattle.meaning.specs.Run.{Call, character, step, run_from}
use Rattle.meaning.proofs.Puts.{put-nothing, drop-put-low, put_front}
use Rattle.board.specs.declared.limits.Board.{Board}
use Rattle.board.specs.declared.calls.Refusal.{Refusal}
use Rattle.board.specs.declared.calls.Stepped.{Stepped}
use Rattle.std.proofs.Common.{Result, Ok, IsOk}
use Rattle.board.specs.Board.{state_of, board_after, Steps}
use Rattle.board.proofs.Promises.{does_step, is_answered, unrefused, stays_within}
use Rattle.exchange.specs.Calls.{stamp_of, sending, Clear, Taken}
use Rattle.exchange.proofs.Running.{kept-begun, Runs, runs, begun_then, character-waits}
use Rattle.exchange.proofs.Stepping.{kept-bytes}

-- bytes put over fewer bytes
pub put-over : (m xs ys : List ℕ) → length xs ≤ length ys → length xs ≤ length m → put (put m 0 xs) 0 ys ≡ put m 0 ys
put-over m xs ys h k =
    rw (put_front (put m 0 xs) ys, put_front m ys, drop-put-low m 0 xs (omega arith) (length ys) (omega arith))

module _ (p : Plate) (b : Board) (tick spacing : ℕ) (q kept m w : List ℕ) (clear : Clear p b spacing q kept m w) where
  pub taken_none : Taken p b tick spacing q kept m w 0 b kept m w
  unfolding sending run_from still
  taken_none = record { within = clear.within; state = refl; bytes = put-nothing kept 0; memory = refl; room = refl }

  abbrev after : ℕ → Outcome
  after i = run_from p (state_of b kept) m (sending tick spacing q i)

  -- a board within its limits refuses no character
  pub character-answered : {i t v : ℕ} {b' : Board} {kept' m' w' : List ℕ} {r : Result Stepped Refusal} {kept'' m'' w'' : List ℕ}
      → Taken p b tick spacing q kept m w i b' kept' m' w' → Steps p b' kept' m' w' (character t v false) r kept'' m'' w'' → IsOk r
  character-answered {t = t} {v = v} {b' = b'} {kept' = kept'} {m' = m'} {w' = w'} x s =
      let g : Call = character t v false in
      let room : 134 ≤ length w' = rw x.room clear.wide in
      is_answered p b' kept' m' w' g (unrefused p b' kept' m' (length w') g x.within room) s

  module _ (low : tick < 2 ^ 32) where
    all_runs : (i : ℕ) → i ≤ length q → Runs p (state_of b kept) m tick spacing q i
    all_runs = runs p (state_of b kept) m tick spacing q clear.idle low clear.close clear.short

    -- the board's step is the run's
    same_step : (i : ℕ) → i < length q → {b' : Board} {kept' m' w' : List ℕ} → Taken p b tick spacing q kept m w i b' kept' m' w'
        → step p (state_of b' kept') m' (character (stamp_of tick spacing i) (arg q i) false) ≡ after (suc i)
    unfolding sending run_from
    same_step i h t =
        ap₂ (λ (s : State) (x : List ℕ). step p s x (character (stamp_of tick spacing i) (arg q i) false)) t.state (t.memory ∙ sym (all_runs i (omega arith)).memory)

    silent-step : (i : ℕ) → i < length q → (after (suc i)).reply ≡ []
    unfolding sending run_from
    silent-step i h =
        ap (λ (x : Outcome). x.reply)
        (character-waits p (after i).state (after i).memory (stamp_of tick spacing i) (arg q i) (all_runs i (omega arith)).waits)

    kept_step : (i : ℕ) → i < length q → (after (suc i)).state.line.kept ≡ take (suc i) q
    kept_step i h =
        kept-begun (after (suc i)).state (take (suc i) q)
        (begun_then p (state_of b kept) m tick spacing q clear.idle low clear.close clear.short i h) (all_runs (suc i) h).kept

    pub taken_more : (i : ℕ) → i < length q → {b' : Board} {kept' m' w' : List ℕ} {r : Result Stepped Refusal} {kept'' m'' w'' : List ℕ}
        → Taken p b tick spacing q kept m w i b' kept' m' w'
        → Steps p b' kept' m' w' (character (stamp_of tick spacing i) (arg q i) false) r kept'' m'' w''
        → Taken p b tick spacing q kept m w (suc i) (board_after b' r) kept'' m'' w''
    taken_more i h {b'} {kept'} {m'} {w'} {r} {kept''} {m''} {w''} t s =
        let g : Call = character (stamp_of tick spacing i) (arg q i) false in
        let room : 134 ≤ length w' = rw t.room clear.wide in
        let z = does_step p b' kept' m' w' g (unrefused p b' kept' m' (length w') g t.within room) s in
        let e = same_step i h t in
        let x : length (take i q) ≡ i = length-take-le i q (omega arith) in
        let y : length (take (suc i) q) ≡ suc i = length-take-le (suc i) q h in
        record {
          within = stays_within p b' kept' m' w' g t.within room s;
          state = z.state ∙ ap (λ (o : Outcome). o.state) e;
          bytes =
              kept-bytes p b' kept' m' w' g t.within room s ∙ ap (λ (o : Outcome). put kept' 0 o.state.line.kept) e
              ∙ ap₂ (λ (k : List ℕ) (l : List ℕ). put k 0 l) t.bytes (kept_step i h)
              ∙ put-over kept (take i q) (take (suc i) q) (omega (arith, x, y)) (omega (arith, x, clear.within.places, clear.short));
          memory = z.memory ∙ ap (λ (o : Outcome). o.memory) e ∙ (all_runs (suc i) h).memory;
          room =
              z.room ∙ ap (λ (o : Outcome). put w' 0 o.reply) e
              ∙ ap (λ (l : List ℕ). put w' 0 l) (silent-step i h) ∙ sym (put-nothing w' 0) ∙ t.room;
        }

    -- .. as the loop says it
    pub taken_next : (i : ℕ) → i < length q → {t : ℕ} {b' : Board} {kept' m' w' : List ℕ} {r : Result Stepped Refusal} {y : Stepped} {kept'' m'' w'' : List ℕ}
        → t ≡ stamp_of tick spacing i → Taken p b tick spacing q kept m w i b' kept' m' w'
        → Steps p b' kept' m' w' (character t (arg q i) false) r kept'' m'' w'' → r ≡ Ok y → Taken p b tick spacing q kept m w (i + 1) y.board kept'' m'' w''
    taken_next i h {t} {b'} {kept'} {m'} {w'} {r} {y} {kept''} {m''} {w''} e x s k =
        let z : Steps p b' kept' m' w' (character (stamp_of tick spacing i) (arg q i) false) (Ok y) kept'' m'' w'' = rw (e, k) at s in
        rw add-one (taken_more i h x z)
