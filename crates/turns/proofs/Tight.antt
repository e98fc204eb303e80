-- No two differing outcomes satisfy a contract of this crate (01, "How tightly the contracts bind"). Assumes nothing.
use Prim.Native.Nat.{ℕ}
use mathlib.Core.Path.{◌≡◌, refl, sym, ap, subst, ◌∙◌}
use mathlib.Core.Bool.{Bool, true, false}
use mathlib.Core.List.{List, []}
use native.Mathlib.Omega.{arith}
use lib.Dec.{T}
use Rattle.std.specs.Prelude.{Option, None, Some, Result, Ok, Err, is_err}
use Rattle.records.specs.declared.record.Unread.{Unread}
use Rattle.meaning.specs.State as meaning
use Rattle.meaning.specs.State.{fresh}
use Rattle.wire.proofs.Tight.{one_outcome}
use Rattle.line.specs.declared.plate.Plate.{Plate}
use Rattle.board.specs.declared.limits.Board.{Board}
use Rattle.board.specs.Board.{state_of}
use Rattle.board.proofs.Promises.{same-state-same-board}
use Rattle.tape.specs.Kinds.{Said}
use Rattle.tape.specs.Answers.{Stage, opening, running, ended}
use Rattle.tape.proofs.Tight.{event_back, event_back_lem, printed_tight}
use Rattle.turns.specs.Hearing.{Readout, not_yet, tells, readout_of, readout_at}
use Rattle.turns.specs.Openings.{tape_plate, opened_by}
use Rattle.turns.specs.Turns.{quickly, board_left, used_after, Turns}
use Rattle.turns.specs.declared.reading.Heard.{Heard}
use Rattle.turns.specs.declared.opening.Opened.{Opened}
use Rattle.turns.specs.declared.answering.Turned.{Turned}
use Rattle.turns.specs.declared.answering.BadRecord.{BadRecord}

-- what is told leads back to what was heard
abbrev readout_back : Readout → Option Heard
readout_back not_yet = None
readout_back (tells x n) = Some (record { event = event_back x; next = n })

readout_back_lem : (h : Option Heard) → readout_back (readout_of h) ≡ h
readout_back_lem None = refl
readout_back_lem (Some h) = rw (event_back_lem h.event)

pub hear_tight : (at : ℕ) (window : List ℕ) (a b : Option Heard) → readout_of a ≡ readout_at at window → readout_of b ≡ readout_at at window → a ≡ b
hear_tight at window a b p q = one_outcome readout_of readout_back readout_back_lem (readout_at at window) a b p q

pub open_tight : (window : List ℕ) (a b : Result Opened Unread) → a ≡ opened_by (readout_at 0 window) → b ≡ opened_by (readout_at 0 window) → a ≡ b
open_tight window a b p q = p ∙ sym q

-- the state of a running board
abbrev pub state_in : meaning.State → Stage → meaning.State
state_in s opening = s
state_in s (running p t m) = t
state_in s ended = s

pub not-both : true ≡ false → ⊥
not-both e = subst (λ (b : Bool). T b) e tt

pub closes-none_tight : (p : Plate) (b : Board) (x : Said) (a c : Bool) → ((kept : List ℕ) → a ≡ quickly (tape_plate p) (state_of b kept) x)
    → ((kept : List ℕ) → c ≡ quickly (tape_plate p) (state_of b kept) x) → a ≡ c
closes-none_tight p b x a c h i = h [] ∙ sym (i [])

parts : {a b : Board} {i j : ℕ} → a ≡ b → i ≡ j → ◌≡◌ {A = Turned} (record { board = a; used = i }) (record { board = b; used = j })
parts e f = rw (e, f)

used : {i j : ℕ} → i ≡ j → ◌≡◌ {A = BadRecord} (record { used = i }) (record { used = j })
used e = rw e

-- what a record's outcome is made of
pub record Alike (r t : Result Turned BadRecord) (kept' kept'' m' m'' w' w'' out' out'' : List ℕ) : Type 0 where
  pub turned : r ≡ t
  pub kept : kept' ≡ kept''
  pub memory : m' ≡ m''
  pub room : w' ≡ w''
  pub out : out' ≡ out''

abbrev memory_in : Stage → List ℕ
memory_in opening = []
memory_in (running p s m) = m
memory_in ended = []

same_turned : (b : Board) (r t : Result Turned BadRecord) → board_left b r ≡ board_left b t → used_after r ≡ used_after t → is_err r ≡ is_err t → r ≡ t
same_turned b (Ok r) (Ok t) i j k = let e : r ≡ t = parts i j in ap Ok e
same_turned b (Err r) (Err t) i j k = let e : r ≡ t = used j in ap Err e
same_turned b (Ok r) (Err t) i j k = absurd (not-both (sym k))
same_turned b (Err r) (Ok t) i j k = absurd (not-both k)

pub turn_tight : (p : Plate) (b : Board) (v : Stage) (place : ℕ) (x : Said) (kept w out : List ℕ) (used : ℕ) {r t : Result Turned BadRecord} {kept' kept'' m' m'' w' w'' out' out'' : List ℕ}
    → Turns p b v place x kept w out used r kept' m' w' out' → Turns p b v place x kept w out used t kept'' m'' w'' out'' → Alike r t kept' kept'' m' m'' w' w'' out' out''
turn_tight p b v place x kept w out used {r} {t} {kept'} {kept''} a c =
    let stage = a.stage ∙ sym c.stage in
    let same : kept' ≡ kept'' = a.bytes ∙ sym c.bytes in
    let state : state_of (board_left b r) kept' ≡ state_of (board_left b t) kept'' = ap (state_in (fresh (tape_plate p))) stage in
    let line = printed_tight a.printed c.printed in
    let boards = same-state-same-board (board_left b r) (board_left b t) kept' a.sound.within.few c.sound.within.few (omega (arith, a.sound.within.places))
    (state ∙ ap (state_of (board_left b t)) (sym same)) in
    record {
      turned = same_turned b r t boards line.0 (a.over ∙ sym c.over);
      kept = same;
      memory = ap memory_in stage;
      room = a.room ∙ sym c.room;
      out = line.1;
    }
