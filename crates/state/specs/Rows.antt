-- What a command leaves: its answer, the state, and the room (01, "The commands"). Assumes nothing.
use Rattle.std.specs.Prelude.{ℕ, ◌≡◌, Bool, true, false, List, Result, Ok, Err}
use Rattle.meaning.specs.State.{Plate, Line}
use Rattle.meaning.specs.Commands.{Command, worked}
use Rattle.wire.specs.declared.codes.ErrorCode.{ErrorCode}
use Rattle.wire.specs.Answers.{ToldAnswer, told, data_in, state_after}
use Rattle.state.specs.declared.state.State.{State}
use Rattle.state.specs.declared.rows.Worked.{Worked}
use Rattle.state.specs.declared.effects.Effect.{Effect}
use Rattle.state.specs.declared.effects.Effect.TheVariants.{Nothing}
use Rattle.state.specs.State.{state_with}
use Rattle.state.specs.Effects.{Bounded, effect_on, row_effect, effect_of}

-- 01, "left to right in the table": a check fails where its test holds, by its error code
abbrev pub refused_if : Bool → ℕ → Result Unit ErrorCode
refused_if true e = Err (record { byte = e })
refused_if false e = Ok tt

-- what a row comes to, of which the reply is told, and what it changes: 01, "An error reply .. changes nothing else"
abbrev pub answer_in : Result Worked ErrorCode → ToldAnswer
answer_in (Ok w) = Ok w.reply
answer_in (Err e) = Err e

abbrev pub effect_in : Result Worked ErrorCode → Effect
effect_in (Ok w) = w.effect
effect_in (Err e) = Nothing

-- the command k, worked on a state s with the line l, memory m, request data d and a room w
pub record Answers (k : Command) (p : Plate) (s : State) (l : Line) (m d w : List ℕ) (r : Result Worked ErrorCode) (w' : List ℕ) : Type 0 where
  pub answer : answer_in r ≡ told (worked k p (state_with s l) m d)
  pub effect : effect_in r ≡ effect_of (worked k p (state_with s l) m d) (row_effect k p (state_with s l) d)
  pub placed : Bounded (effect_in r)
  pub state : effect_on (effect_in r) (state_with s l) ≡ state_after (worked k p (state_with s l) m d) (state_with s l)
  pub room : w' ≡ data_in (worked k p (state_with s l) m d) w
