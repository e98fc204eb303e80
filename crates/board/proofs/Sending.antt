-- The reply by the answer: an error code, data, or none. Assumes nothing.
use Prim.Native.Nat.{ℕ, ◌+◌, ◌≤◌}
use native.Mathlib.Omega.{arith}
use mathlib.Core.Path.{◌≡◌, sym, ◌∙◌}
use mathlib.Core.Bool.{true, false}
use lib.Dec.{eqb}
use mathlib.Core.List.{List, [], ◌∷◌}
use lib.ListN.{length, length-append, length-take, length-drop}
use Rattle.meaning.specs.Bytes.{longest_reply, put, part}
use Rattle.meaning.specs.State.{none, own_byte}
use Rattle.meaning.specs.Frames.{sealed, message, warned}
use Rattle.std.specs.Prelude.{Some, None, Ok, Err}
use Rattle.wire.specs.declared.codes.ErrorCode.{ErrorCode}
use Rattle.wire.specs.Answers.{ToldAnswer}
use Rattle.state.specs.declared.state.State.{State}
use Rattle.state.specs.Queue.{queue_of}
use Rattle.state.specs.State.{state_with}
use Rattle.meaning.proofs.Puts.{put-nothing}
use Rattle.board.specs.Work.{reply_of, Brief, Sends, fault_reply, Refused}

pub sealed-length : (a c : ℕ) (d : List ℕ) → length (sealed (a ∷ c ∷ d)) ≡ length d + 3
unfolding sealed
sealed-length a c d = simp length-append (omega arith)

pub part_length : (w : List ℕ) (n : ℕ) → n ≤ 131 → longest_reply ≤ length w → length (part w 2 n) ≡ n
unfolding part
part_length w n few wide = simp (length-take, length-drop) (omega arith)

pub brief_data : {x : ToldAnswer} {n : ℕ} → Brief x → x ≡ Ok (Some n) → n ≤ 131
brief_data h e = rw e at h

pub enough_room : {n l : ℕ} → n ≤ 131 → longest_reply ≤ l → n + 3 ≤ l
enough_room h k = omega arith

module _ (s : State) (c : ℕ) (w : List ℕ) {x : ToldAnswer} where
  pub error-sent : {own mark : ℕ} {e : ErrorCode} {w' : List ℕ} → x ≡ Err e → own ≡ own_byte (state_with s none) → mark ≡ warned 0x50 (queue_of s.faults)
      → w' ≡ put w 0 (sealed (own ∷ mark ∷ e.byte ∷ [])) → Sends s c x w 4 w'
  unfolding reply_of message
  error-sent {e = e} q o k h =
      record {
        count = rw q (sym (sealed-length (own_byte (state_with s none)) (warned 0x50 (queue_of s.faults)) (e.byte ∷ [])));
        bytes = rw (q, ← o, ← k) h;
      }

  pub data_sent : {own mark n : ℕ} {w' : List ℕ} → x ≡ Ok (Some n) → n ≤ 131 → longest_reply ≤ length w → own ≡ own_byte (state_with s none)
      → mark ≡ warned c (queue_of s.faults) → w' ≡ put w 0 (sealed (own ∷ mark ∷ part w 2 n)) → Sends s c x w (n + 3) w'
  unfolding reply_of message
  data_sent {n = n} q few wide o k h =
      let l : length (part w 2 n) ≡ n = part_length w n few wide in
      record {
        count = rw q (sym (sealed-length (own_byte (state_with s none)) (warned c (queue_of s.faults)) (part w 2 n) ∙ rw l));
        bytes = rw (q, ← o, ← k) h;
      }

  pub none-sent : x ≡ Ok None → Sends s c x w 0 w
  unfolding reply_of
  none-sent q = record { count = rw q; bytes = rw q (put-nothing w 0) }

-- an error code by itself, and silence
pub fault-sent : (s : State) (w : List ℕ) {e n : ℕ} {w' : List ℕ} → eqb e 0 ≡ false → Sends s 0x50 (Err (record { byte = e })) w n w' → Refused s e w n w'
unfolding fault_reply reply_of
fault-sent s w q h = record { count = rw q h.count; bytes = rw q h.bytes }

pub fault-silent : (s : State) (w : List ℕ) {e : ℕ} → eqb e 0 ≡ true → Refused s e w 0 w
unfolding fault_reply
fault-silent s w q = record { count = rw q; bytes = rw q (put-nothing w 0) }

-- no two differing outcomes satisfy the contract of an error code, or of silence
pub refused_tight : (s : State) (e : ℕ) (w : List ℕ) {n k : ℕ} {w' w'' : List ℕ} → Refused s e w n w' → Refused s e w k w'' → (n ≡ k) × (w' ≡ w'')
refused_tight s e w x y = (x.count ∙ sym y.count, x.bytes ∙ sym y.bytes)
