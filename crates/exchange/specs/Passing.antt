-- What passes between bench and board: refusals, reply and verdict of one request (01, "The bench", "Named refusals"). Assumes nothing.
use Rattle.std.specs.Prelude.{ℕ, ◌≡◌, Bool, not, List, [], T, eqb, leb, length, take, Result, Ok, Err}
use Rattle.meaning.specs.Bytes.{pick, either, part, put}
use Rattle.meaning.specs.State.{Plate, State, own_byte}
use Rattle.meaning.specs.Characters.{full_pause}
use Rattle.meaning.specs.Commands.{command_of, worked}
use Rattle.meaning.specs.Frames.{Outcome, still, resting}
use Rattle.meaning.specs.Run.{poll}
use Rattle.meaning.specs.Bench.{Verdict, refusal, address_ok, address_for, allowed, request, writes, handed}
use Rattle.meaning.specs.Demands.{meant, concluded}
use Rattle.board.specs.declared.limits.Board.{Board}
use Rattle.board.specs.Board.{state_of, KeepsFew, refusal_on}
use Rattle.board.specs.declared.calls.Refusal.TheVariants.{R1, R2, R3}
use Rattle.bench.specs.declared.request.Unwritten.TheVariants.{R4, R5}
use Rattle.bench.specs.Outcomes.{verdict_of, without_data}
use Rattle.exchange.specs.declared.asking.Refusal.{Refusal}
use Rattle.exchange.specs.declared.asking.Refusal.TheVariants as unsent
use Rattle.exchange.specs.declared.asking.Refusal.TheVariants.{FrameOpen, TooSlow}
use Rattle.exchange.specs.declared.asking.Heard.{Heard}

abbrev pub Exchanged : Type 0
Exchanged = Result Heard Refusal

-- 01, "Named refusals", by their numbers; 6 and 7 for the two that the paper does not number
abbrev pub unsent_number : Refusal → ℕ
unsent_number (unsent.Board R1) = 1
unsent_number (unsent.Board R2) = 2
unsent_number (unsent.Board R3) = 3
unsent_number (unsent.Bench R4) = 4
unsent_number (unsent.Bench R5) = 5
unsent_number FrameOpen = 6
unsent_number TooSlow = 7

-- how an exchange ends: refused by its number; or the lengths of request and reply, and the verdict without the data
pub data Ended : Type 0 where
  refused : ℕ → Ended
  heard : ℕ → ℕ → Verdict → Ended

abbrev pub ended_of : Exchanged → Ended
ended_of (Ok h) = heard h.request h.reply (verdict_of h.verdict)
ended_of (Err x) = refused (unsent_number x)

-- the board afterwards: a refused exchange leaves it as it was
abbrev pub board_heard : Board → Exchanged → Board
board_heard b (Ok h) = h.board
board_heard b (Err x) = b

-- 01, "handed back as a piece of the reply itself": of the request and the reply that stand at the fronts of q and w; its bytes, and its place in w
abbrev pub data_heard : Exchanged → List ℕ → List ℕ → List ℕ
data_heard (Ok h) q w = part (take h.reply w) (handed (take h.request q) (take h.reply w)).from (handed (take h.request q) (take h.reply w)).count
data_heard (Err x) q w = []

abbrev pub place_heard : Exchanged → List ℕ → List ℕ → ℕ
place_heard (Ok h) q w = (handed (take h.request q) (take h.reply w)).from
place_heard (Err x) q w = 0

-- R1, R2, R3; a frame open already; a spacing not below the pause; R4, R5. 0 where none applies
unfoldable pub refusal_for : Plate → Board → ℕ → ℕ → List ℕ → ℕ → List ℕ → List ℕ → List ℕ → List ℕ → ℕ
refusal_for p b n c d spacing q kept m w =
    pick (not (eqb (refusal_on p b kept m (length w) (poll 0)) 0)) (refusal_on p b kept m (length w) (poll 0))
    (pick (state_of b kept).line.begun 6
    (pick (leb (full_pause p) spacing) 7
    (writes n c d q).refusal))

-- 01, "Broadcast FFh is taken too": the address byte is this board's or broadcast
unfoldable pub reached : State → ℕ → Bool
reached s a = either (eqb a (own_byte s)) (eqb a 0xFF)

-- what a board with no frame open makes of a request: what its row means; of one for another address, silence
unfoldable pub answer_to : Plate → State → List ℕ → ℕ → ℕ → List ℕ → Outcome
answer_to p s m a c d = pick (reached s a) (meant p s m c d) (still s m)

-- what the bench is to conclude; of silence, B1
unfoldable pub verdict_on : Plate → State → List ℕ → ℕ → ℕ → List ℕ → Verdict
verdict_on p s m a c d = pick (reached s a) (concluded s (worked (command_of c) p s m d)) (refusal 1)

-- the bytes q are a request that the bench writes
pub record Asks (n c : ℕ) (d q : List ℕ) : Type 0 where
  pub address : T (address_ok n)
  pub may : T (allowed (command_of c) d)
  pub bytes : q ≡ request (address_for n) c d

-- a request on a clear line: what comes back, and what board, kept bytes, memory and room are then
pub record Converses (p : Plate) (b : Board) (n c : ℕ) (d kept m w : List ℕ) (r : Heard) (kept' m' w' : List ℕ) : Type 0 where
  pub ended : ended_of (Ok r)
      ≡ heard (length (request (address_for n) c d)) (length (answer_to p (resting (state_of b kept)) m (address_for n) c d).reply)
      (without_data (verdict_on p (resting (state_of b kept)) m (address_for n) c d))
  pub state : state_of r.board kept' ≡ (answer_to p (resting (state_of b kept)) m (address_for n) c d).state
  pub bytes : kept' ≡ put kept 0 (request (address_for n) c d)
  pub memory : m' ≡ (answer_to p (resting (state_of b kept)) m (address_for n) c d).memory
  pub room : w' ≡ put w 0 (answer_to p (resting (state_of b kept)) m (address_for n) c d).reply
  pub few : KeepsFew r.board

-- what the caller holds afterwards
pub record Passed : Type 0 where
  pub ended : Ended
  pub state : State
  pub request : List ℕ
  pub kept : List ℕ
  pub memory : List ℕ
  pub room : List ℕ

-- refused, all is as it was; otherwise the request stands at the front of its buffer and of the kept bytes, the reply at the front of the
-- room, and no frame is open. The tick is not asked for: at whatever tick the first character ends, the same comes of it
unfoldable pub passed : Plate → Board → ℕ → ℕ → List ℕ → ℕ → List ℕ → List ℕ → List ℕ → List ℕ → Passed
passed p b n c d spacing q kept m w =
    let k = refusal_for p b n c d spacing q kept m w in
    let s = resting (state_of b kept) in
    let a = address_for n in
    let o = answer_to p s m a c d in
    pick (eqb k 0)
    (record {
      ended = heard (length (request a c d)) (length o.reply) (without_data (verdict_on p s m a c d));
      state = o.state;
      request = put q 0 (request a c d);
      kept = put kept 0 (request a c d);
      memory = o.memory;
      room = put w 0 o.reply;
    })
    (record { ended = refused k; state = state_of b kept; request = q; kept = kept; memory = m; room = w })

pub record Passes (p : Plate) (b : Board) (n c : ℕ) (d : List ℕ) (spacing : ℕ) (q kept m w : List ℕ) (r : Exchanged) (q' kept' m' w' : List ℕ) : Type 0 where
  pub ended : ended_of r ≡ (passed p b n c d spacing q kept m w).ended
  pub state : state_of (board_heard b r) kept' ≡ (passed p b n c d spacing q kept m w).state
  pub written : q' ≡ (passed p b n c d spacing q kept m w).request
  pub bytes : kept' ≡ (passed p b n c d spacing q kept m w).kept
  pub memory : m' ≡ (passed p b n c d spacing q kept m w).memory
  pub room : w' ≡ (passed p b n c d spacing q kept m w).room
  pub few : refusal_for p b n c d spacing q kept m w ≡ 0 → KeepsFew (board_heard b r)
