-- What a command comes to, in the code: the answer told, the reply data in the room, the memory and the state after it (01, "The commands"). Assumes nothing.
use Rattle.std.specs.Prelude.{◌≡◌, List, ℕ, length, Option, Some, None, Result, Ok, Err}
use Rattle.meaning.specs.Bytes.{put}
use Rattle.meaning.specs.State.{State}
use Rattle.meaning.specs.Commands as meaning
use Rattle.wire.specs.declared.codes.ErrorCode.{ErrorCode}

-- so many bytes of reply data; no reply; the error code that is replied
abbrev pub ToldAnswer : Type 0
ToldAnswer = Result (Option ℕ) ErrorCode

abbrev pub told : meaning.Answer → ToldAnswer
told (meaning.refuse e) = Err (record { byte = e })
told (meaning.accept d s m) = Ok (Some (length d))
told (meaning.quiet s m) = Ok None

-- the reply data stands from place 2 of the room on, behind the places of address and command
abbrev pub data_in : meaning.Answer → List ℕ → List ℕ
data_in (meaning.refuse e) room = room
data_in (meaning.accept d s m) room = put room 2 d
data_in (meaning.quiet s m) room = room

-- 01, "An error reply .. changes nothing else"
abbrev pub memory_after : meaning.Answer → List ℕ → List ℕ
memory_after (meaning.refuse e) m = m
memory_after (meaning.accept d s m') m = m'
memory_after (meaning.quiet s m') m = m'

abbrev pub state_after : meaning.Answer → State → State
state_after (meaning.refuse e) s = s
state_after (meaning.accept d s' m) s = s'
state_after (meaning.quiet s' m) s = s'

-- the answer a, worked on memory m and a room: what is returned, and what memory and room hold then
pub record Works (a : meaning.Answer) (m w : List ℕ) (r : ToldAnswer) (m' w' : List ℕ) : Type 0 where
  pub answer : r ≡ told a
  pub memory : m' ≡ memory_after a m
  pub room : w' ≡ data_in a w
