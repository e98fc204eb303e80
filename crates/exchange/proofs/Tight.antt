-- No two differing outcomes satisfy the contract of `exchange` (01, "How tightly the contracts bind"). Assumes nothing.
use Prim.Native.Nat.{ℕ, ◌≤◌}
use mathlib.Core.Path.{◌≡◌, refl, sym, ap, ◌∙◌}
use mathlib.Core.Bool.{Bool, true, false, not}
use mathlib.Core.List.{List}
use native.Mathlib.Omega.{arith}
use native.Mathlib.Decide.{ℕ_discrete}
use lib.Dec.{eqb}
use lib.ListN.{length}
use borrow.Author.Tests.{eqb-true, ne_eqb}
use Rattle.meaning.specs.Bytes.{pick}
use Rattle.meaning.specs.State.{Plate}
use Rattle.meaning.specs.Run.{poll}
use Rattle.meaning.specs.Bench as meaning
use Rattle.meaning.specs.Bench.{address_for, request}
use Rattle.wire.proofs.Tight.{one_outcome}
use Rattle.line.proofs.Tight.{put-long}
use Rattle.board.specs.declared.limits.Board.{Board}
use Rattle.board.specs.Board.{state_of, refusal_on}
use Rattle.board.proofs.Bounding.{lends-poll}
use Rattle.board.proofs.Promises.{same-state-same-board}
use Rattle.bench.proofs.Tight.{verdict_back, verdict_back_lem}
use Rattle.exchange.specs.declared.asking.Refusal.{Refusal}
use Rattle.std.specs.Prelude.{Ok, Err}
use Rattle.board.specs.declared.calls.Refusal.TheVariants.{R1, R2, R3}
use Rattle.bench.specs.Outcomes.{Judging, verdict_of}
use Rattle.bench.specs.declared.request.Unwritten.TheVariants.{R4, R5}
use Rattle.exchange.specs.declared.asking.Refusal.TheVariants as unsent
use Rattle.exchange.specs.declared.asking.Refusal.TheVariants.{FrameOpen, TooSlow}
use Rattle.exchange.specs.declared.asking.Heard.{Heard}
use Rattle.exchange.specs.Passing.{Exchanged, unsent_number, Ended, refused, heard, ended_of, board_heard, refusal_for, passed, Passes}
use Rattle.exchange.proofs.Stepping.{within}

-- the numbers lead back to the code's refusal
abbrev refusal_at : ℕ → Refusal
refusal_at n =
    pick (eqb n 1) (unsent.Board R1) (pick (eqb n 2) (unsent.Board R2) (pick (eqb n 3) (unsent.Board R3) (pick (eqb n 4) (unsent.Bench R4)
    (pick (eqb n 5) (unsent.Bench R5) (pick (eqb n 6) FrameOpen TooSlow)))))

number-back : (x : Refusal) → refusal_at (unsent_number x) ≡ x
number-back (unsent.Board R1) = refl
number-back (unsent.Board R2) = refl
number-back (unsent.Board R3) = refl
number-back (unsent.Bench R4) = refl
number-back (unsent.Bench R5) = refl
number-back FrameOpen = refl
number-back TooSlow = refl

-- where the exchange is not refused, no call of the board is
board_willing : (p : Plate) (b : Board) (n c : ℕ) (d : List ℕ) (spacing : ℕ) (q kept m w : List ℕ) → refusal_for p b n c d spacing q kept m w ≡ 0
    → refusal_on p b kept m (length w) (poll 0) ≡ 0
unfolding refusal_for
board_willing p b n c d spacing q kept m w e = go (refusal_on p b kept m (length w) (poll 0)) (eqb (refusal_on p b kept m (length w) (poll 0)) 0) refl _ e
  where
    go : (k : ℕ) (t : Bool) → eqb k 0 ≡ t → (x : ℕ) → pick (not t) k x ≡ 0 → k ≡ 0
    go k true i x e = eqb-true k 0 i
    go k false i x e = e

-- what the contract's outcome is made of
pub record Alike (r t : Exchanged) (q' q'' kept' kept'' m' m'' w' w'' : List ℕ) : Type 0 where
  pub exchanged : r ≡ t
  pub request : q' ≡ q''
  pub kept : kept' ≡ kept''
  pub memory : m' ≡ m''
  pub room : w' ≡ w''

abbrev number_in : Ended → ℕ
number_in (refused n) = n
number_in (heard n k v) = 0

abbrev request_in : Ended → ℕ
request_in (refused n) = 0
request_in (heard n k v) = n

abbrev reply_in : Ended → ℕ
reply_in (refused n) = 0
reply_in (heard n k v) = k

abbrev verdict_in : Ended → meaning.Verdict
verdict_in (refused n) = meaning.refusal 0
verdict_in (heard n k v) = v

same-heard : {a e : Board} {n n' k k' : ℕ} {v v' : Judging} → a ≡ e → n ≡ n' → k ≡ k' → v ≡ v'
    → ◌≡◌ {A = Heard} (record { board = a; request = n; reply = k; verdict = v }) (record { board = e; request = n'; reply = k'; verdict = v' })
same-heard i j k l = rw (i, j, k, l)

-- no two differing answers end alike and leave the same board
same-answer : (b : Board) (r t : Exchanged) → ended_of r ≡ ended_of t → board_heard b r ≡ board_heard b t → r ≡ t
same-answer b (Ok x) (Ok y) e i =
    ap Ok (same-heard i (ap request_in e) (ap reply_in e) (one_outcome verdict_of verdict_back verdict_back_lem (verdict_of y.verdict) x.verdict y.verdict (ap verdict_in e) refl))
same-answer b (Ok x) (Err y) e i = cc
same-answer b (Err x) (Ok y) e i = cc
same-answer b (Err x) (Err y) e i = ap Err (one_outcome unsent_number refusal_at number-back (unsent_number y) x y (ap number_in e) refl)

module _ (p : Plate) (b : Board) (n c : ℕ) (d : List ℕ) (spacing : ℕ) (q kept m w : List ℕ) where
  -- of what is kept none of the 135 places is lost
  kept-all : refusal_for p b n c d spacing q kept m w ≡ 0 → 135 ≤ length (passed p b n c d spacing q kept m w).kept
  unfolding passed
  kept-all e =
      let all : length kept ≡ 135 = (within p b kept m (length w) (poll 0) (lends-poll 0) (board_willing p b n c d spacing q kept m w e)).places in
      rw e (omega (arith, all, put-long kept (request (address_for n) c d)))

  -- a refused one leaves the board
  pub left-alone : {r : Exchanged} {q' kept' m' w' : List ℕ} → (refusal_for p b n c d spacing q kept m w ≡ 0 → ⊥) → Passes p b n c d spacing q kept m w r q' kept' m' w'
      → board_heard b r ≡ b
  unfolding passed
  left-alone {r} h x =
      let z : eqb (refusal_for p b n c d spacing q kept m w) 0 ≡ false = ne_eqb (refusal_for p b n c d spacing q kept m w) 0 h in
      go r (rw z at x.ended)
    where
      go : (t : Exchanged) → ended_of t ≡ refused (refusal_for p b n c d spacing q kept m w) → board_heard b t ≡ b
      go (Ok t) e = cc
      go (Err t) e = refl

  pub exchange_tight : {r t : Exchanged} {q' q'' kept' kept'' m' m'' w' w'' : List ℕ} → Passes p b n c d spacing q kept m w r q' kept' m' w'
      → Passes p b n c d spacing q kept m w t q'' kept'' m'' w'' → Alike r t q' q'' kept' kept'' m' m'' w' w''
  exchange_tight {r} {t} {kept' = kept'} {kept'' = kept''} x y =
      record {
        exchanged = same-answer b r t (x.ended ∙ sym y.ended) (go (ℕ_discrete (refusal_for p b n c d spacing q kept m w) 0));
        request = x.written ∙ sym y.written;
        kept = x.bytes ∙ sym y.bytes;
        memory = x.memory ∙ sym y.memory;
        room = x.room ∙ sym y.room;
      }
    where
      go : Dec (refusal_for p b n c d spacing q kept m w ≡ 0) → board_heard b r ≡ board_heard b t
      go (yes e) =
          let k : kept' ≡ kept'' = x.bytes ∙ sym y.bytes in
          let long : 135 ≤ length kept' = rw x.bytes (kept-all e) in
          same-state-same-board (board_heard b r) (board_heard b t) kept' (x.few e) (y.few e) long (x.state ∙ sym (ap (state_of (board_heard b t)) k ∙ y.state))
      go (no h) = left-alone h x ∙ sym (left-alone h y)
