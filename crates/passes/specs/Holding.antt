-- What a pass leaves beside the meaning's stage: the places of the kept bytes, the reply room, and the board where a record was bad. Assumes nothing.
use Rattle.std.specs.Prelude.{ℕ, zero, suc, ◌+◌, ◌-◌, List, length, drop, ltb}
use Rattle.meaning.specs.Bytes.{pick, put}
use Rattle.records.specs.Records.{whole_length}
use Rattle.tape.specs.Kinds.{Said}
use Rattle.tape.specs.Answers.{Stage, turn}
use Rattle.tape.specs.Passes.{next_record, on_next_record, longest_line}
use Rattle.turns.specs.Turns.{reply_to, stage_kept, is_ended, last_of}

-- the last stage before a bad record, the lent places, the reply room
pub record LentState : Type 0 where
  pub stage : Stage
  pub kept : List ℕ
  pub room : List ℕ

abbrev pub lent_state : Stage → List ℕ → List ℕ → LentState
lent_state v kept w = record { stage = v; kept = kept; room = w }

-- after one record: places past the kept bytes and the reply room past a reply are untouched
abbrev pub lent_after : LentState → ℕ → Said → LentState
lent_after h at x =
    lent_state (last_of h.stage (turn h.stage at x).stage) (put h.kept 0 (stage_kept (turn h.stage at x).stage)) (put h.room 0 (reply_to h.stage x))

-- after the records of a pass, one after another as `pass` takes them
unfoldable pub lent_by : ℕ → ℕ → ℕ → List ℕ → LentState → LentState
lent_by zero space at t h = h
lent_by (suc n) space at t h =
    pick (ltb space longest_line) h
    (on_next_record (next_record t) h
    (λ x.
    let k = turn h.stage at x in
    pick (is_ended k.stage) (lent_after h at x) (lent_by n (space - length k.printed) (at + whole_length t) (drop (whole_length t) t) (lent_after h at x))))
