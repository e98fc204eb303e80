-- The promise of Req 04 against our board, request by request. Assumes nothing.
use Rattle.std.specs.Prelude.{ℕ, ◌+◌, ◌≤◌, ◌<◌, ◌≡◌, List, [], ◌∷◌, length, T, eqb}
use Rattle.meaning.specs.Bytes.{either, part}
use Rattle.meaning.specs.State as board
use Rattle.meaning.specs.State.{label_length, last_address}
use Rattle.meaning.specs.Fields.{memory_length, blocks, table, field_count, status_at, start, sound}
use Rattle.meaning.specs.Bench.{address_ok, address_for}
use Rattle.meaning.specs.Demands.{meant}
use Rattle.programmer.specs.Wishes.{Field, Wish, wanted}
use Rattle.programmer.specs.Steps.{due, after_reply, in_all}
use Rattle.programmer.specs.Promises.{FieldsFit}
use Rattle.programmer.specs.declared.step.Step.TheVariants.{Count}
use Rattle.programmer.specs.declared.step.Standing.{Standing}
use Rattle.programmer.specs.declared.step.Standing.TheVariants.{At, Done, Failed}

-- where the programmer stands, and the memory of the board that it talks to
pub record Talk : Type 0 where
  pub standing : Standing
  pub memory : List ℕ

-- one request, which the board works in the state s as demand 2 says (meaning, `meant`), and its reply is heard
unfoldable pub talked : board.Plate → ℕ → Wish → board.State → Standing → List ℕ → Talk
talked p n l s (At st) m =
    let o = meant p s m (due l st).command (due l st).body in record { standing = after_reply n l (At st) o.reply; memory = o.memory }
talked p n l s Done m = record { standing = Done; memory = m }
talked p n l s (Failed st w) m = record { standing = Failed st w; memory = m }

-- as many requests as states are listed. The state at each may be any: faults, positions, polls and power-on may come in between
unfoldable pub talked_on : board.Plate → ℕ → Wish → List board.State → Talk → Talk
talked_on p n l [] x = x
talked_on p n l (s ∷ ss) x = talked_on p n l ss (talked p n l s x.standing x.memory)

-- "the tape's codes in force", and the requests are for this board
pub record Met (n : ℕ) (l : Wish) (s : board.State) : Type 0 where
  pub codes : s.codes ≡ l.codes
  pub address : s.address ≤ last_address
  pub ours : T (either (eqb (address_for n) (board.own_byte s)) (eqb (address_for n) 0xFF))

abbrev pub InForce : ℕ → Wish → List board.State → Type 0
InForce n l [] = Unit
InForce n l (s ∷ ss) = Met n l s × InForce n l ss

-- "fields that fit into its total blocks"
unfoldable pub blocks_of : List Field → ℕ
blocks_of [] = 0
blocks_of (f ∷ fs) = blocks f.status + blocks_of fs

-- "our board with a sound memory", and the wish fits into it
pub record BoardReady (p : board.Plate) (n : ℕ) (l : Wish) (m : List ℕ) : Type 0 where
  pub label : length p.label ≡ label_length
  pub address : T (address_ok n)
  pub size : length m ≡ memory_length p.total
  pub trusted : T (sound p.total (table p.total m))
  pub whole : FieldsFit l.fields
  pub room : blocks_of l.fields ≤ p.total

-- "the board then holds exactly the tape's fields": their number, every status, 00h behind them, and every byte
pub record HoldsFields (t : ℕ) (l : Wish) (m : List ℕ) : Type 0 where
  pub size : length m ≡ memory_length t
  pub trusted : T (sound t (table t m))
  pub number : field_count (table t m) ≡ length l.fields
  pub statuses : (f : ℕ) → status_at (table t m) f ≡ (wanted l f).status
  pub bytes : (f : ℕ) → f < length l.fields → part m (start (table t m) f) (length (wanted l f).bytes) ≡ (wanted l f).bytes

-- "done is reached and the board then holds exactly the tape's fields"
pub record Programmed (t : ℕ) (l : Wish) (x : Talk) : Type 0 where
  pub ended : x.standing ≡ Done
  pub holds : HoldsFields t l x.memory

-- .. after as many requests as the progress bar tells, and however many turns it is given beyond them
abbrev pub Programs : Type 0
Programs = (p : board.Plate) (n : ℕ) (l : Wish) (m : List ℕ) (ss : List board.State) → BoardReady p n l m → InForce n l ss
    → in_all l (field_count (table p.total m)) ≤ length ss → Programmed p.total l (talked_on p n l ss (record { standing = At Count; memory = m }))
