-- What an accepted request passed, and what so holds of the traffic of every run. Assumes nothing.
use Prim.Native.Nat.{ℕ, ◌%◌, ◌<◌}
use mathlib.Core.Path.{◌≡◌, refl, sym, ap, ◌∙◌}
use mathlib.Core.Logic.{◌≢◌}
use mathlib.Core.Bool.{Bool, true, false, not}
use mathlib.Core.List.{List, [], ◌∷◌}
use native.Mathlib.Omega.{arith}
use lib.Dec.{T, ltb, eqb, eqb→eq, lit<}
use lib.ListN.{length, get_or}
use Rattle.meaning.specs.Bytes.{pick, arg}
use Rattle.meaning.specs.State.{Plate, State, with_line}
use Rattle.meaning.specs.Fields.{table, field_count, status_at}
use Rattle.meaning.specs.Commands.{Command, command_of, asked, Answer, refuse, accept, quiet, error, choose, worked}
use Rattle.meaning.specs.Characters.{Frame, closed, over}
use Rattle.meaning.specs.Frames.{command_byte, data_of, judged, ours, outcome, still, short, elsewhere, answered, ending, leaves, work, resting, close, up_to}
use Rattle.meaning.specs.Run.{Call, character, poll, measured, fault, power_on, step, run_from, run, Heard, heard, closes, traffic}
use Rattle.meaning.specs.Ledger.{accepted, status_of}
use Rattle.meaning.proofs.Replies.{reply-command}
use Rattle.meaning.proofs.Invariant.{Inv, keep, count-tb, status-tb}
use Rattle.meaning.proofs.Steps.{nn, both_0, both_1, arg-said}
use Rattle.meaning.proofs.Whole.{run_inv}
use Rattle.meaning.proofs.Choices.{through, choose_by}

-- where the answer is no refusal, Q holds
abbrev pub Only : Type 0 → Answer → Type 0
Only Q (refuse e) = Unit
Only Q (accept r s m) = Q
Only Q (quiet s m) = Q

pub passed : (Q : Type 0) (e : ℕ) (q : Bool) (a : Answer) → (T (not q) → Only Q a) → Only Q (error e q a)
passed Q = through (Only Q) (λ e. tt)

-- .. whatever the answer, if Q holds
only_any : (Q : Type 0) → Q → (a : Answer) → Only Q a
only_any Q h (refuse e) = tt
only_any Q h (accept r s m) = h
only_any Q h (quiet s m) = h

pub only_where : (Q : Type 0) (q : Bool) (a b : Answer) → (T q → Q) → (T (not q) → Only Q b) → Only Q (choose q a b)
only_where Q q a b x y = choose_by (Only Q) q a b (λ h. only_any Q (x h) a) y

-- a frame whose command c is k, and whose reply has command c too: what the row's checks leave holds
module _ (p : Plate) (s : State) (m : List ℕ) (b : Frame) (c : ℕ) (Q : Type 0) (some : 0 < c) (other : c ≢ 0x50) where
  replied : (a : Answer) → Only Q a → get_or (outcome s m (command_byte b.bytes) a).reply 1 0 % 128 ≡ c → Q
  unfolding outcome
  replied (refuse e) h r = absurd (other (sym r ∙ reply-command s 0x50 (e ∷ []) (lit< tt)))
  replied (accept d s' m') h r = h
  replied (quiet s' m') h r = absurd (omega arith)

  module _ (k : Command) (named : command_of c ≡ k) (row : T (asked k (data_of b.bytes)) → Only Q (worked k p s m (data_of b.bytes))) where
    judged_only : command_byte b.bytes ≡ c → Only Q (judged p s m b)
    unfolding judged
    judged_only e =
        passed Q _ _ _ (λ _. passed Q _ _ _ (λ _. passed Q _ _ _ (λ _. passed Q _ _ _ (λ _.
        rw (e, named) (passed Q _ _ _ (λ y. row (nn (asked k (data_of b.bytes)) y)))))))

    work_only : command_byte b.bytes ≡ c → get_or (work p s m b).reply 1 0 % 128 ≡ c → Q
    unfolding work ending leaves still
    work_only e = go (ltb (length b.bytes) 3) (not (ours s b.bytes))
      where
        go : (q u : Bool) → get_or (leaves s m (command_byte b.bytes) (pick q short (pick u elsewhere (answered (judged p s m b))))).reply 1 0 % 128 ≡ c → Q
        go true u = λ r. absurd (omega arith)
        go false true = λ r. absurd (omega arith)
        go false false = replied (judged p s m b) (judged_only e)

    pub accepted_so : T (accepted c (record { asked = b.bytes; answered = (work p s m b).reply })) → Q
    unfolding accepted command_byte
    accepted_so h =
        let x = eqb (get_or b.bytes 1 0) c in
        let y = eqb (get_or (work p s m b).reply 1 0 % 128) c in
        work_only (eqb→eq (get_or b.bytes 1 0) c (both_0 x y h)) (eqb→eq (get_or (work p s m b).reply 1 0 % 128) c (both_1 x y h))

-- the stored status of the field that a request names is the one that the traffic tells
pub stored_said : (p : Plate) (s : State) (m : List ℕ) (t : List Heard) (I : Inv p s m t) (b : List ℕ) → 0 < length (data_of b)
    → arg (data_of b) 0 < field_count (table p.total m) → status_at (table p.total m) (arg (data_of b) 0) ≡ status_of t (get_or b 2 0)
stored_said p s m t I b long there =
    status-tb p s m t I (arg (data_of b) 0) (omega (arith, there, count-tb p s m t I))
    ∙ sym (I.statuses (arg (data_of b) 0)) ∙ ap (status_of t) (arg-said p s m t I b 0 long)

-- what every worked frame keeps of the traffic holds after any run
module _ (P : List Heard → Type 0)
    (keeps : (p : Plate) (s : State) (m : List ℕ) (t : List Heard) → Inv p s m t → P t → (b : Frame) → P (record { asked = b.bytes; answered = (work p s m b).reply } ∷ t)) where
  at_close_lem : (p : Plate) (s : State) (m : List ℕ) (t : List Heard) → Inv p s m t → P t → (now : ℕ)
      → P (pick (over p s now) (record { asked = s.line.kept; answered = (up_to p s m now).reply } ∷ t) t)
  unfolding up_to close resting closed with_line
  at_close_lem p s m t I h now = go (over p s now)
    where
      go : (q : Bool) → P (pick q (record { asked = s.line.kept; answered = (pick q (close p s m now) (still s m)).reply } ∷ t) t)
      go true = keeps p (resting s) m t (keep p s m t I (resting s) (refl, refl)) h (closed s.line)
      go false = h

  at-step : (p : Plate) (s : State) (m : List ℕ) (t : List Heard) → Inv p s m t → P t → (g : Call) → P (heard p s g (step p s m g).reply t)
  unfolding heard step closes
  at-step p s m t I h (character now v bad) = at_close_lem p s m t I h now
  at-step p s m t I h (poll now) = at_close_lem p s m t I h now
  at-step p s m t I h (measured n) = h
  at-step p s m t I h (fault x) = h
  at-step p s m t I h power_on = h

  pub ever : P [] → (p : Plate) (gs : List Call) → P (traffic p gs)
  unfolding traffic run run_from
  ever begin p [] = begin
  ever begin p (g ∷ gs) = at-step p (run p gs).state (run p gs).memory (traffic p gs) (run_inv p gs) (ever begin p gs) g
