-- What the rows and the image rest on: a byte that is a board's, label bytes told, a code that is set; and what reading, overflow and emptying do to the queue (01, "The commands"). Assumes nothing.
use Prim.Native.Nat.{ℕ, ◌+◌, ◌≤◌, ◌<◌}
use native.Mathlib.Omega.{arith}
use mathlib.Core.Path.{◌≡◌, refl, sym, ap, ◌∙◌}
use mathlib.Core.Bool.{true, not}
use mathlib.Core.List.{List, []}
use borrow.Author.Tests.{leb-true, not-false}
use lib.Dec.{leb}
use lib.ListN.{length, drop, length-drop}
use lib.Seq.{length-take-le}
use Rattle.std.specs.Prelude.{Some, Result, Ok}
use Rattle.wire.specs.declared.codes.ErrorCode.{ErrorCode}
use Rattle.meaning.specs.Bytes.{both, part, put}
use Rattle.meaning.specs.State as meaning
use Rattle.meaning.specs.State.{Plate, Line, label_length, board_byte, queued, with_counter, with_queue, with_lock}
use Rattle.meaning.specs.Commands.{Command, accept, worked}
use Rattle.state.specs.declared.faults.Faults.{Faults}
use Rattle.state.specs.declared.faults.Oldest.{Oldest}
use Rattle.state.specs.declared.state.State.{State}
use Rattle.state.specs.declared.rows.Worked.{Worked}
use Rattle.state.specs.Queue.{queue_of, holding, Queues, Reads}
use Rattle.state.specs.State.{state_with, ReadsOut}
use Rattle.state.specs.declared.effects.Effect.{Effect}
use Rattle.state.specs.declared.effects.Effect.TheVariants.{Nothing, Code, Overflow, OldestRead, Emptied}
use Rattle.state.specs.Effects.{Bounded, effect_on, row_effect}
use Rattle.state.specs.Rows.{refused_if, Answers}
use Rattle.state.proofs.Answering.{accepts, passed}
use Rattle.meaning.proofs.Choices.{both_left, both_right}

-- 000, table 30: a byte that passes is 40h to 5Fh
pub board_range : (a : ℕ) {u : Unit} → Ok u ≡ refused_if (not (board_byte a)) 0x0D → (0x40 ≤ a) × (a ≤ 0x5F)
unfolding board_byte
board_range a h =
    let k : both (leb 0x40 a) (leb a 0x5F) ≡ true = not-false _ (passed (not (both (leb 0x40 a) (leb a 0x5F))) 0x0D h) in (
      leb-true 0x40 a (both_left (leb 0x40 a) (leb a 0x5F) k),
      leb-true a 0x5F (both_right (leb 0x40 a) (leb a 0x5F) k),
    )

-- 52h and 56h: n of the label bytes from place i on
pub told-label : (k : Command) (p : Plate) (s : State) (l : Line) (m d w : List ℕ) (i n : ℕ) {r : Result Worked ErrorCode} {w' : List ℕ}
    → worked k p (state_with s l) m d ≡ accept (part p.label i n) (state_with s l) m → row_effect k p (state_with s l) d ≡ Nothing
    → length p.label ≡ label_length → i + n ≤ label_length → r ≡ Ok (record { effect = Nothing; reply = Some n }) → w' ≡ put w 2 (part p.label i n) → Answers k p s l m d w r w'
unfolding effect_on part
told-label k p s l m d w i n q x all few h o = accepts k p s l m d w (part p.label i n) h q x tt (sym (length-take-le n (drop i p.label) (rw (length-drop, all) (omega arith)))) o

-- the code that an effect sets is one of four
pub placed-code : {x : Effect} {n c : ℕ} → Bounded x → x ≡ Code n c → n < 4
placed-code h e = rw e at h

-- a queue put into a state whose lock is the same
queue-alone : (s : meaning.State) (f g : Faults) (q : List ℕ) → s.locked ≡ f.locked → Queues f q g → holding s g ≡ with_queue s q
unfolding holding with_lock with_queue
queue-alone s f g q e h = rw (h.queue, h.lock, ← e)

-- the oldest code read out of a state
pub read_out : (s : State) (l : Line) (t : State) (o : Oldest Faults) → Reads s.faults o → state_with t l ≡ holding (state_with s l) o.rest
    → ReadsOut (state_with s l) o.code (state_with t l)
read_out s l t o b q =
    record {
      oldest = b.oldest;
      rest = q ∙ queue-alone (state_with s l) s.faults o.rest (drop 1 (queue_of s.faults)) refl b.rest;
    }

-- the queue after an overflow, a reading and a reset
module _ (s : State) (l : Line) {x : Effect} {t : meaning.State} where
  pub overflows : (u : meaning.State) (f : Faults) → x ≡ Overflow → Queues s.faults (queued (queue_of s.faults) 0x08) f → u ≡ with_counter (state_with s l) 0
      → t ≡ holding u f → t ≡ effect_on x (state_with s l)
  unfolding effect_on with_counter
  overflows u f e h i j =
      let z : meaning.State = with_counter (state_with s l) 0 in
      rw e (j ∙ ap (λ (y : meaning.State). holding y f) i ∙ queue-alone z s.faults f (queued (queue_of s.faults) 0x08) refl h)

  pub moves_up : {c : ℕ} → x ≡ OldestRead → ReadsOut (state_with s l) c t → t ≡ effect_on x (state_with s l)
  unfolding effect_on
  moves_up e h = rw e h.rest

  pub empties : (f : Faults) → x ≡ Emptied → Queues s.faults [] f → t ≡ holding (state_with s l) f → t ≡ effect_on x (state_with s l)
  unfolding effect_on
  empties f e h q = rw e (q ∙ queue-alone (state_with s l) s.faults f [] refl h)
