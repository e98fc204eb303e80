-- One record of a running board. Assumes nothing.
use Rattle.std.specs.Prelude.{ℕ, ◌+◌, ◌≤◌, ◌≡◌, Bool, true, false, not, List, [], Option, None, Some, Result, Ok, Err, is_err, length, take}
use Rattle.meaning.specs.Bytes.{put, longest_reply}
use Rattle.meaning.specs.State as meaning
use Rattle.meaning.specs.Characters.{over}
use Rattle.meaning.specs.Run.{Call, character, poll, measured, fault, power_on, step}
use Rattle.line.specs.declared.plate.Plate.{Plate}
use Rattle.board.specs.declared.limits.Board.{Board}
use Rattle.board.specs.declared.calls.Stepped.{Stepped}
use Rattle.board.specs.Board as board
use Rattle.board.specs.Board.{state_of, fits_in, reply_length}
use Rattle.board.specs.Promises.{Within}
use Rattle.tape.specs.Kinds.{Said, plate, call, unfit}
use Rattle.tape.specs.Answers as answers
use Rattle.tape.specs.Answers.{Stage, opening, running, ended, turn, printed_of}
use Rattle.tape.specs.Reader.{Printed}
use Rattle.tape.specs.Passes.{longest_line}
use Rattle.turns.specs.Openings.{tape_plate}
use Rattle.turns.specs.declared.answering.Called.{Called}
use Rattle.turns.specs.declared.answering.Turned.{Turned}
use Rattle.turns.specs.declared.answering.BadRecord.{BadRecord}

-- R1 to R3 do not apply
pub record Sound (p : Plate) (b : Board) (kept m w : List ℕ) : Type 0 where
  pub within : Within (tape_plate p) b kept m
  pub room : longest_reply ≤ length w

-- a stage of a running board
abbrev pub runs : Plate → Board → List ℕ → List ℕ → Stage
runs p b kept m = running (tape_plate p) (state_of b kept) m

-- the reply that a record brings, and the bytes that a stage keeps of an open frame
abbrev pub reply_to : Stage → Said → List ℕ
reply_to opening x = []
reply_to (running p s m) (plate q) = []
reply_to (running p s m) (call g) = (step p s m g).reply
reply_to (running p s m) unfit = []
reply_to ended x = []

abbrev pub stage_kept : Stage → List ℕ
stage_kept opening = []
stage_kept (running p s m) = s.line.kept
stage_kept ended = []

-- 01, "prints the line `bad N`, .. and ends": a bad record changes nothing else
abbrev pub is_ended : Stage → Bool
is_ended opening = false
is_ended (running p s m) = false
is_ended ended = true

abbrev pub last_of : Stage → Stage → Stage
last_of w opening = opening
last_of w (running p s m) = running p s m
last_of w ended = w

-- a character or a poll before the frame is over
abbrev pub quickly : meaning.Plate → meaning.State → Said → Bool
quickly p s (plate q) = false
quickly p s (call (character t v bad)) = not (over p s t)
quickly p s (call (poll t)) = not (over p s t)
quickly p s (call (measured n)) = false
quickly p s (call (fault c)) = false
quickly p s (call power_on) = false
quickly p s unfit = false

-- a record that closes no frame: whatever memory and place, the turn prints nothing and leaves the board b'. Places past the kept bytes are untouched
pub record Quiet (p : Plate) (b : Board) (kept : List ℕ) (x : Said) (b' : Board) (kept' : List ℕ) : Type 0 where
  pub quick : quickly (tape_plate p) (state_of b kept) x ≡ true
  pub turned : (m : List ℕ) (place : ℕ) → turn (runs p b kept m) place x ≡ record { stage = runs p b' kept' m; printed = [] }
  pub silent : (m : List ℕ) → reply_to (runs p b kept m) x ≡ []
  pub bytes : kept' ≡ put kept 0 (state_of b' kept').line.kept
  pub fits : fits_in b' kept' ≡ true
  pub within : (m : List ℕ) → Within (tape_plate p) b kept m → Within (tape_plate p) b' kept' m

-- what a turn leaves: a bad record leaves the board as it was
abbrev pub board_left : Board → Result Turned BadRecord → Board
board_left b (Ok r) = r.board
board_left b (Err e) = b

abbrev pub used_after : Result Turned BadRecord → ℕ
used_after (Ok r) = r.used
used_after (Err e) = e.used

-- what a record leaves of a board b in the stage v, of the lent bytes and of the reply room, and what it prints; an error exactly where it ends the tape
pub record Turns (p : Plate) (b : Board) (v : Stage) (place : ℕ) (x : Said) (kept w out : List ℕ) (used : ℕ) (r : Result Turned BadRecord)
    (kept' m' w' out' : List ℕ) : Type 0 where
  pub printed : Printed (turn v place x).printed out used (used_after r) out'
  pub over : is_err r ≡ is_ended (turn v place x).stage
  pub stage : runs p (board_left b r) kept' m' ≡ last_of v (turn v place x).stage
  pub bytes : kept' ≡ put kept 0 (stage_kept (turn v place x).stage)
  pub room : w' ≡ put w 0 (reply_to v x)
  pub sound : Sound p (board_left b r) kept' m' w'

-- the board's call for what a record says; a call that brings a reply has its tick
pub record CallsBoard (p : Plate) (b : Board) (x : Said) (kept m w : List ℕ) (r : Called) (kept' m' w' : List ℕ) : Type 0 where
  pub asked : Call
  pub said : x ≡ call asked
  pub stepped : board.Steps (tape_plate p) b kept m w asked (Ok r.stepped) kept' m' w'
  pub line : printed_of (poll r.tick) (step (tape_plate p) (state_of b kept) m asked).reply ≡ printed_of asked (step (tape_plate p) (state_of b kept) m asked).reply

-- no call: the record is bad
pub record NotCalled (x : Said) (kept m w kept' m' w' : List ℕ) : Type 0 where
  pub bad : (v : Plate) (s : meaning.State) (n : List ℕ) (place : ℕ) → turn (running (tape_plate v) s n) place x ≡ answers.bad_record place
  pub silent : (v : Plate) (s : meaning.State) (n : List ℕ) → reply_to (running (tape_plate v) s n) x ≡ []
  pub bytes : kept' ≡ kept
  pub memory : m' ≡ m
  pub room : w' ≡ w

abbrev pub Calls : Plate → Board → Said → List ℕ → List ℕ → List ℕ → Option Called → List ℕ → List ℕ → List ℕ → Type 0
Calls p b x kept m w None kept' m' w' = NotCalled x kept m w kept' m' w'
Calls p b x kept m w (Some r) kept' m' w' = CallsBoard p b x kept m w r kept' m' w'

-- a reply, at the front of its room, has space as a line
pub record Fitting (s : Stepped) (w out : List ℕ) (used : ℕ) : Type 0 where
  pub few : reply_length s ≤ longest_reply
  pub room : reply_length s ≤ length w
  pub space : used + longest_line ≤ length out

-- a line for a reply, none for silence
pub record Answered (c : Called) (w out : List ℕ) (used : ℕ) (r : Turned) (out' : List ℕ) : Type 0 where
  pub board : r.board ≡ c.stepped.board
  pub printed : Printed (printed_of (poll c.tick) (take (reply_length c.stepped) w)) out used r.used out'
