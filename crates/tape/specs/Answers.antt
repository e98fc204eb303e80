-- What the answer program prints of a whole tape (01, "The answer program"). Assumes nothing.
use Rattle.std.specs.Prelude.{ℕ, zero, suc, ◌+◌, List, [], ◌∷◌, ◌++◌, length, drop}
use Rattle.meaning.specs.Bytes.{pick, zeros}
use Rattle.meaning.specs.State.{Plate, State, plate_ok, fresh}
use Rattle.meaning.specs.Fields.{memory_length}
use Rattle.meaning.specs.Run.{Call, character, poll, measured, fault, power_on, step}
use Rattle.records.specs.Records.{whole_length, record_at}
use Rattle.tape.specs.Kinds.{Said, plate, call, unfit, said_by}
use Rattle.tape.specs.Text.{reply_line, first_line, bad_line}

-- 01, "first and once": no plate yet; a board with its plate, state and memory; ended by a bad record
pub data Stage : Type 0 where
  opening : Stage
  running : Plate → State → List ℕ → Stage
  ended : Stage

pub record Turn : Type 0 where
  pub stage : Stage
  pub printed : List ℕ

-- 01, "per reply": no reply, no line. Only a character and a poll bring one
unfoldable pub printed_of : Call → List ℕ → List ℕ
printed_of g [] = []
printed_of (character now v bad) (b ∷ bs) = reply_line now (b ∷ bs)
printed_of (poll now) (b ∷ bs) = reply_line now (b ∷ bs)
printed_of (measured n) (b ∷ bs) = []
printed_of (fault c) (b ∷ bs) = []
printed_of power_on (b ∷ bs) = []

unfoldable pub bad_record : ℕ → Turn  -- 01, "prints the line `bad N`, .. and ends"
bad_record at = record { stage = ended; printed = bad_line at }

-- 01, "a refused plate"; a board starts fresh, with blank memory
unfoldable pub begun : ℕ → Plate → Turn
begun at p = pick (plate_ok p) (record { stage = running p (fresh p) (zeros (memory_length p.total)); printed = [] }) (bad_record at)

unfoldable pub stepped : Plate → State → List ℕ → Call → Turn
stepped p s m g =
    let o = step p s m g in
    record { stage = running p o.state o.memory; printed = printed_of g o.reply }

-- 01, "plate .., first and once": what the record at a place brings about
unfoldable pub turn : Stage → ℕ → Said → Turn
turn opening at (plate p) = begun at p
turn opening at (call g) = bad_record at
turn opening at unfit = bad_record at
turn (running p s m) at (plate q) = bad_record at
turn (running p s m) at (call g) = stepped p s m g
turn (running p s m) at unfit = bad_record at
turn ended at x = record { stage = ended; printed = [] }

-- the records from a place on, where t is left of the tape; n is at least their number
unfoldable pub answers_from : ℕ → Stage → ℕ → List ℕ → List ℕ
answers_from zero w at t = []
answers_from (suc n) w at [] = []
answers_from (suc n) w at (b ∷ t) =
    let k = turn w at (said_by (record_at (b ∷ t))) in
    k.printed ++ answers_from n k.stage (at + whole_length (b ∷ t)) (drop (whole_length (b ∷ t)) (b ∷ t))

-- 01, "The first line always comes; an empty tape prints no other"
unfoldable pub answers_of : List ℕ → List ℕ
answers_of t = first_line ++ answers_from (length t) opening 0 t
