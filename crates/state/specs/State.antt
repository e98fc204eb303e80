-- The code's state as that of the meaning (01, "Fresh state"). Assumes nothing.
use Rattle.std.specs.Prelude.{ℕ, ◌≡◌, drop}
use Rattle.meaning.specs.Bytes.{arg}
use Rattle.meaning.specs.State as meaning
use Rattle.state.specs.declared.state.State.{State}
use Rattle.state.specs.Queue.{queue_of}

-- with an open frame, or none
abbrev pub state_with : State → meaning.Line → meaning.State
state_with s l = record {
  codes = s.codes;
  counter = s.counter;
  address = s.address;
  offset = s.offset;
  measured = s.measured;
  queue = queue_of s.faults;
  locked = s.faults.locked;
  line = l;
}

-- 01, row 50h: what is told of the waiting codes, and the state without it
pub record ReadsOut (s : meaning.State) (c : ℕ) (t : meaning.State) : Type 0 where
  pub oldest : c ≡ arg s.queue 0
  pub rest : t ≡ meaning.with_queue s (drop 1 s.queue)
