-- The promise of Req 04 from the first character to the last reply: the board is called as its host calls it (meaning, `run_from`). Assumes nothing.
use Rattle.std.specs.Prelude.{ℕ, ◌^◌, ◌≤◌, ◌<◌, ◌≡◌, false, List, [], ◌∷◌, length, T}
use Rattle.meaning.specs.Bytes.{longest_request}
use Rattle.meaning.specs.State as board
use Rattle.meaning.specs.State.{plate_ok}
use Rattle.meaning.specs.Fields.{memory_length, table, field_count, sound}
use Rattle.meaning.specs.Characters.{full_pause}
use Rattle.meaning.specs.Run.{Call, poll, run_from, closes}
use Rattle.meaning.specs.Bench.{address_ok, address_for, request}
use Rattle.meaning.specs.Demands.{Sent, Told}
use Rattle.programmer.specs.Wishes.{Wish, good, checked_tape, wish_of}
use Rattle.programmer.specs.Steps.{due, in_all}
use Rattle.programmer.specs.Running.{at_first, hears}
use Rattle.programmer.specs.declared.run.Programmer.{Programmer}
use Rattle.programmer.specs.declared.step.Standing.{Standing}
use Rattle.programmer.specs.declared.step.Standing.TheVariants.{At, Done, Failed}
use Rattle.shop.specs.Promises.{Talk, blocks_of, Programmed}

-- one request on the line: the host's calls that send it, newest first, and the tick of the poll that closes the frame
pub record Passage : Type 0 where
  pub calls : List Call
  pub closing : ℕ

-- the programmer, and the board's state and memory
pub record Scene : Type 0 where
  pub programmer : Programmer
  pub state : board.State
  pub memory : List ℕ

abbrev pub talk_of : Scene → Talk
talk_of x = record { standing = x.programmer.standing; memory = x.memory }

unfoldable pub after_passage : board.Plate → Wish → Passage → Scene → Scene
after_passage p l e x =
    let o = run_from p x.state x.memory (poll e.closing ∷ e.calls) in
    record { programmer = hears l x.programmer o.reply; state = o.state; memory = o.memory }

-- first passage first
unfoldable pub after_passages : board.Plate → Wish → List Passage → Scene → Scene
after_passages p l [] x = x
after_passages p l (e ∷ es) x = after_passages p l es (after_passage p l e x)

-- "no other master and requests sent as in demand 2": the calls say the request that is due (meaning, `Told`: no frame open before, without a gap,
-- power-on or parity fault; faults, positions and polls that close nothing may come in between), and the poll closes it. Nothing is sent once it is over
abbrev pub Carries : board.Plate → ℕ → Wish → Passage → Standing → board.State → List ℕ → Type 0
Carries p n l e (At st) s m =
    Told p s m e.calls (address_for n) (due l st).command (due l st).body × T (closes p (run_from p s m e.calls).state (poll e.closing))
Carries p n l e Done s m = ⊥
Carries p n l e (Failed st w) s m = ⊥

abbrev pub AllCarried : board.Plate → ℕ → Wish → List Passage → Scene → Type 0
AllCarried p n l [] x = Unit
AllCarried p n l (e ∷ es) x = Carries p n l e x.programmer.standing x.state x.memory × AllCarried p n l es (after_passage p l e x)

-- "against our board with a sound memory, the tape's codes in force, fields that fit into its total blocks, no other master and requests sent as in demand 2":
-- t is a good label tape, n the address that the programmer was told, s and m the board. As many requests as `in_all` tells: done, and exactly the tape's fields
abbrev pub ProgramsByCalls : Type 0
ProgramsByCalls = (p : board.Plate) (n : ℕ) (t : List ℕ) (s : board.State) (m : List ℕ) (es : List Passage)
    → T (plate_ok p) → T (address_ok n) → length m ≡ memory_length p.total → T (sound p.total (table p.total m))
    → checked_tape t ≡ good → blocks_of (wish_of t).fields ≤ p.total → s.codes ≡ (wish_of t).codes
    → AllCarried p n (wish_of t) es (record { programmer = at_first n; state = s; memory = m })
    → length es ≡ in_all (wish_of t) (field_count (table p.total m))
    → Programmed p.total (wish_of t) (talk_of (after_passages p (wish_of t) es (record { programmer = at_first n; state = s; memory = m })))

-- the premise can be met: on a board with no frame open each request that the bench writes has such calls, from any tick on and at any spacing below the pause
abbrev pub CanBeCarried : Type 0
CanBeCarried = (p : board.Plate) (s : board.State) (m : List ℕ) (a c : ℕ) (d : List ℕ) (tick spacing : ℕ)
    → T (plate_ok p) → tick < 2 ^ 32 → spacing < full_pause p → length (request a c d) ≤ longest_request → s.line.begun ≡ false → Sent p s m a c d
    → (e : Passage) × Told p s m e.calls a c d × T (closes p (run_from p s m e.calls).state (poll e.closing))
