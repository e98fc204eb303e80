-- Bit 7 of a reply is set exactly if codes wait after the call. Assumes nothing.
use Prim.Native.Nat.{ℕ, ◌<◌}
use mathlib.Core.Path.{◌≡◌}
use mathlib.Core.Bool.{Bool, true, false, not}
use mathlib.Core.List.{List}
use native.Mathlib.Omega.{arith}
use lib.Dec.{ltb}
use lib.ListN.{length}
use Rattle.meaning.specs.Bytes.{pick}
use Rattle.meaning.specs.State.{Plate, State, with_line}
use Rattle.meaning.specs.Commands.{Answer, refuse, accept, quiet}
use Rattle.meaning.specs.Characters.{Frame, over, closed, taken}
use Rattle.meaning.specs.Frames.{command_byte, judged, ours, sealed, message, Outcome, still, outcome, short, elsewhere, answered, ending, leaves, work, resting, close, up_to}
use Rattle.meaning.specs.Run.{character, poll, measured, fault, power_on, step}
use Rattle.meaning.specs.Bench.{warning}
use Rattle.meaning.specs.Demands.{waits, WarnsExactly}
use Rattle.meaning.proofs.Wire.{warning-is}

abbrev Warns : Outcome → Type 0
Warns o = 0 < length o.reply → warning o.reply ≡ waits o.state.queue

module _ (p : Plate) (s : State) (m : List ℕ) where
  message-warns : (c : ℕ) (d : List ℕ) → warning (message s c d) ≡ waits s.queue
  unfolding warning message sealed
  message-warns c d = warning-is c s.queue

module _ (p : Plate) (s : State) (m : List ℕ) (b : Frame) where
  abbrev c : ℕ
  c = command_byte b.bytes

  by_answer : (a : Answer) → Warns (outcome s m c a)
  unfolding outcome
  by_answer (refuse e) h = message-warns p s m 0x50 _
  by_answer (accept d s' m') h = message-warns p s' m c d
  by_answer (quiet s' m') h = absurd (omega arith)

  work-warns : Warns (work p s m b)
  unfolding work ending leaves still
  work-warns = by (ltb (length b.bytes) 3) (not (ours s b.bytes))
    where
      by : (x y : Bool) → Warns (leaves s m c (pick x short (pick y elsewhere (answered (judged p s m b)))))
      by true y h = absurd (omega arith)
      by false true h = absurd (omega arith)
      by false false h = by_answer (judged p s m b) h

up_to-warns : (p : Plate) (s : State) (m : List ℕ) (now : ℕ) → Warns (up_to p s m now)
unfolding up_to close still
up_to-warns p s m now = by (over p s now)
  where
    by : (q : Bool) → Warns (pick q (close p s m now) (still s m))
    by true h = work-warns p (resting s) m (closed s.line) h
    by false h = absurd (omega arith)

pub warns-exactly : WarnsExactly
unfolding step still taken with_line
warns-exactly p s m (character now v bad) h = up_to-warns p s m now h
warns-exactly p s m (poll now) h = up_to-warns p s m now h
warns-exactly p s m (measured n) h = absurd (omega arith)
warns-exactly p s m (fault x) h = absurd (omega arith)
warns-exactly p s m power_on h = absurd (omega arith)
