-- A frame is closed: what its work, its reply and its close ask and leave (01, "Characters become frames"). Assumes nothing.
use Rattle.std.specs.Prelude.{ℕ, ◌≤◌, ◌≡◌, Bool, true, false, List, [], ◌∷◌, Some, None, Result, Ok, Err, eqb, leb, length}
use Rattle.meaning.specs.Bytes.{pick, both, longest_reply, part, put}
use Rattle.meaning.specs.State as meaning
use Rattle.meaning.specs.State.{label_length, last_address, none, last_count, plate_ok}
use Rattle.meaning.specs.Fields.{memory_length}
use Rattle.meaning.specs.Commands.{Command, command_of, asked, worked}
use Rattle.meaning.specs.Commands as commands
use Rattle.meaning.specs.Characters.{closed}
use Rattle.meaning.specs.Frames.{message, outcome, work}
use Rattle.wire.specs.declared.codes.ErrorCode.{ErrorCode}
use Rattle.wire.specs.Answers.{ToldAnswer, memory_after, state_after, Works}
use Rattle.line.specs.declared.plate.Plate.{Plate}
use Rattle.line.specs.declared.characters.OpenFrame.{OpenFrame}
use Rattle.line.specs.Line.{plate_of, line_of, Fits}
use Rattle.state.specs.declared.state.State.{State}
use Rattle.state.specs.declared.rows.Worked.{Worked}
use Rattle.state.specs.State.{state_with}
use Rattle.state.specs.Rows.{Answers}
use Rattle.board.specs.declared.closing.Closed.{Closed}

-- within the limits, R1 to R3
pub record Ready (p : Plate) (label : List ℕ) (s : State) (f : OpenFrame) (kept m w : List ℕ) : Type 0 where
  pub plate : plate_ok (plate_of p label) ≡ true
  pub counter : s.counter ≤ last_count
  pub address : s.address ≤ last_address
  pub fits : Fits f kept
  pub size : length m ≡ memory_length p.total
  pub room : longest_reply ≤ length w

-- .. and a request whose data d has its row's length
pub record Workable (p : Plate) (label : List ℕ) (s : State) (c : ℕ) (d m w : List ℕ) : Type 0 where
  pub plate : plate_ok (plate_of p label) ≡ true
  pub counter : s.counter ≤ last_count
  pub address : s.address ≤ last_address
  pub size : length m ≡ memory_length p.total
  pub room : longest_reply ≤ length w
  pub fits : asked (command_of c) d ≡ true

-- the command k with the data d, worked on state, memory and room
pub record WorksOn (k : Command) (p : meaning.Plate) (s : State) (d m w : List ℕ) (r : Result Worked ErrorCode) (m' w' : List ℕ) : Type 0 where
  pub row : Answers k p s none m d w r w'
  pub memory : m' ≡ memory_after (worked k p (state_with s none) m d) m

-- 01, rows 4Ah to 4Eh
unfoldable pub on_memory : ℕ → Bool
on_memory c = both (leb 0x4A c) (leb c 0x4E)

-- what they ask: memory and room, the four codes, and a request whose data d has its row's length
pub record MemoryLent (t : ℕ) (cs : List ℕ) (c : ℕ) (d m w : List ℕ) : Type 0 where
  pub few : t ≤ 112
  pub size : length m ≡ memory_length t
  pub room : longest_reply ≤ length w
  pub codes : length cs ≡ 4
  pub fits : asked (command_of c) d ≡ true
  pub memory : on_memory c ≡ true

-- .. and that they leave the state as it is
pub record Tells (a : commands.Answer) (s : meaning.State) (m w : List ℕ) (r : ToldAnswer) (m' w' : List ℕ) : Type 0 where
  pub works : Works a m w r m' w'
  pub state : state_after a s ≡ s

-- what the rows on the state and the label bytes ask
pub record Changeable (n : ℕ) (label : List ℕ) (s : State) (c : ℕ) (d w : List ℕ) : Type 0 where
  pub bits : n ≤ 32
  pub label_bytes : length label ≡ label_length
  pub counter : s.counter ≤ last_count
  pub room : longest_reply ≤ length w
  pub fits : asked (command_of c) d ≡ true
  pub alone : on_memory c ≡ false

-- 01, "An error reply is address, 50h, code, checksum"; other data stands from place 2 of the room on; the state is the one after the work
unfoldable pub reply_of : meaning.State → ℕ → ToldAnswer → List ℕ → List ℕ
reply_of s c (Err e) w = message s 0x50 (e.byte ∷ [])
reply_of s c (Ok (Some n)) w = message s c (part w 2 n)
reply_of s c (Ok None) w = []

-- a reply may be written
pub record Answerable (s : State) (w : List ℕ) : Type 0 where
  pub address : s.address ≤ last_address
  pub room : longest_reply ≤ length w

-- 01, "judged in this order", 1 to 6: a frame that is no request, by its error code; 00h is silence
unfoldable pub fault_reply : meaning.State → ℕ → List ℕ
fault_reply s e = pick (eqb e 0) [] (message s 0x50 (e ∷ []))

pub record Refused (s : State) (e : ℕ) (w : List ℕ) (r : ℕ) (w' : List ℕ) : Type 0 where
  pub count : r ≡ length (fault_reply (state_with s none) e)
  pub bytes : w' ≡ put w 0 (fault_reply (state_with s none) e)

-- data that a reply has room for
abbrev pub Brief : ToldAnswer → Type 0
Brief (Err e) = Unit
Brief (Ok (Some n)) = n ≤ 131
Brief (Ok None) = Unit

pub record Sendable (x : ToldAnswer) (w : List ℕ) : Type 0 where
  pub room : longest_reply ≤ length w
  pub brief : Brief x

pub record Sends (s : State) (c : ℕ) (x : ToldAnswer) (w : List ℕ) (r : ℕ) (w' : List ℕ) : Type 0 where
  pub count : r ≡ length (reply_of (state_with s none) c x w)
  pub bytes : w' ≡ put w 0 (reply_of (state_with s none) c x w)

-- what a request c with the data d leaves, once it is worked and answered: the state t, and n reply bytes at the room's front
pub record Serves (p : meaning.Plate) (s : State) (c : ℕ) (d m w : List ℕ) (t : State) (n : ℕ) (m' w' : List ℕ) : Type 0 where
  pub state : state_with t none ≡ (outcome (state_with s none) m c (worked (command_of c) p (state_with s none) m d)).state
  pub sent : n ≡ length (outcome (state_with s none) m c (worked (command_of c) p (state_with s none) m d)).reply
  pub memory : m' ≡ (outcome (state_with s none) m c (worked (command_of c) p (state_with s none) m d)).memory
  pub room : w' ≡ put w 0 (outcome (state_with s none) m c (worked (command_of c) p (state_with s none) m d)).reply

-- what a closed frame leaves: the meaning's work on a board with no frame open
pub record Closes (p : meaning.Plate) (s : State) (f : OpenFrame) (kept m w : List ℕ) (r : Closed) (m' w' : List ℕ) : Type 0 where
  pub state : state_with r.state none ≡ (work p (state_with s none) m (closed (line_of f kept))).state
  pub sent : r.sent ≡ length (work p (state_with s none) m (closed (line_of f kept))).reply
  pub memory : m' ≡ (work p (state_with s none) m (closed (line_of f kept))).memory
  pub room : w' ≡ put w 0 (work p (state_with s none) m (closed (line_of f kept))).reply
