-- How the code's events say what the records say, and a text that is written. Assumes nothing.
use Rattle.std.specs.Prelude.{ℕ, ◌+◌, ◌≤◌, ◌≡◌, List, [], ◌∷◌, length, eqb, Option, None, Some}
use Rattle.meaning.specs.Bytes.{pick, little, put}
use Rattle.meaning.specs.Run.{character, poll, measured, fault, power_on}
use Rattle.tape.specs.Kinds.{Said, plate, call, unfit, plate_in}
use Rattle.tape.specs.declared.kinds.Event.{Event}
use Rattle.tape.specs.declared.kinds.Event.TheVariants as event

abbrev pub said_of : Event → Said
said_of (event.Plate t p a b u) = plate (plate_in (t ∷ p ∷ a ∷ b ∷ u ∷ []))
said_of (event.Character t v f) = call (character t v f)
said_of (event.Poll t) = call (poll t)
said_of (event.Measured n) = call (measured n)
said_of (event.Fault c) = call (fault c)
said_of event.PowerOn = call power_on
said_of event.Unfit = unfit

-- the number of a body of four bytes
unfoldable pub number_of : List ℕ → Option ℕ
number_of b = pick (eqb (length b) 4) (Some (little b)) None

-- a text is written into an output from a place on: r is the place past it, and the rest is untouched
pub record Printed (text out : List ℕ) (at r : ℕ) (out' : List ℕ) : Type 0 where
  pub next : r ≡ at + length text
  pub bytes : out' ≡ put out at text
  pub within : r ≤ length out
