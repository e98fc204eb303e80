-- The promise of Req 04 through the exchange: each request is one call of `exchange` on an idle board (crates/exchange). Assumes nothing.
use Rattle.std.specs.Prelude.{ℕ, zero, suc, ◌≤◌, ◌≡◌, List, length, take, T}
use Rattle.meaning.specs.State as board
use Rattle.meaning.specs.State.{plate_ok, last_address}
use Rattle.meaning.specs.Fields.{memory_length, table, field_count, sound}
use Rattle.meaning.specs.Frames.{resting}
use Rattle.meaning.specs.Bench.{Verdict, address_ok, address_for}
use Rattle.board.specs.Board.{state_of}
use Rattle.board.specs.declared.limits.Board.{Board}
use Rattle.exchange.specs.Passing.{Exchanged, heard, ended_of, board_heard, reached, answer_to, Passes}
use Rattle.programmer.specs.Wishes.{Wish, good, checked_tape, wish_of}
use Rattle.programmer.specs.Steps.{due, in_all}
use Rattle.programmer.specs.Running.{at_first, hears}
use Rattle.programmer.specs.declared.run.Programmer.{Programmer}
use Rattle.programmer.specs.declared.step.Step.{Step}
use Rattle.programmer.specs.declared.step.Standing.{Standing}
use Rattle.programmer.specs.declared.step.Standing.TheVariants.{At, Done, Failed}
use Rattle.shop.specs.Promises.{blocks_of, Programmed}
use Rattle.shop.specs.Passages.{Scene, talk_of}

-- the request that is due, what the exchange leaves of board and memory (exchange, `answer_to`), and its reply heard; once it is over nothing is exchanged
unfoldable pub exchanged_at : board.Plate → ℕ → Wish → Standing → Scene → Scene
exchanged_at p n l (At st) x =
    let o = answer_to p (resting x.state) x.memory (address_for n) (due l st).command (due l st).body in
    record { programmer = hears l x.programmer o.reply; state = o.state; memory = o.memory }
exchanged_at p n l Done x = x
exchanged_at p n l (Failed st w) x = x

unfoldable pub exchanged_on : board.Plate → ℕ → Wish → ℕ → Scene → Scene  -- so many times
exchanged_on p n l zero x = x
exchanged_on p n l (suc k) x = exchanged_on p n l k (exchanged_at p n l x.programmer.standing x)

-- .. and that is what a call of `exchange` leaves, by its contract alone (exchange, `Passes`), where it was not refused: the reply's j bytes stand at the front
-- of the room, and the board, its kept bytes lent, has the new state
abbrev pub ExchangeIsOne : Type 0
ExchangeIsOne = (p : board.Plate) (b : Board) (n : ℕ) (l : Wish) (x : Programmer) (st : Step) (spacing : ℕ) (q kept m w : List ℕ) (r : Exchanged) (q' kept' m' w' : List ℕ) (k j : ℕ) (v : Verdict)
    → Passes p b n (due l st).command (due l st).body spacing q kept m w r q' kept' m' w' → ended_of r ≡ heard k j v
    → ◌≡◌ {A = Scene} (record { programmer = hears l x (take j w'); state = state_of (board_heard b r) kept'; memory = m' })
    (exchanged_at p n l (At st) (record { programmer = x; state = state_of b kept; memory = m }))

-- our board, a sound memory, the tape's codes in force, fields that fit, the programmer told the board's address (or broadcast): as many exchanges as `in_all`
-- tells, or more, and done is reached and the board holds exactly the tape's fields
abbrev pub ProgramsByExchange : Type 0
ProgramsByExchange = (p : board.Plate) (n : ℕ) (t : List ℕ) (s : board.State) (m : List ℕ) (k : ℕ)
    → T (plate_ok p) → T (address_ok n) → s.address ≤ last_address → T (reached s (address_for n))
    → length m ≡ memory_length p.total → T (sound p.total (table p.total m))
    → checked_tape t ≡ good → blocks_of (wish_of t).fields ≤ p.total → s.codes ≡ (wish_of t).codes
    → in_all (wish_of t) (field_count (table p.total m)) ≤ k
    → Programmed p.total (wish_of t) (talk_of (exchanged_on p n (wish_of t) k (record { programmer = at_first n; state = s; memory = m })))
