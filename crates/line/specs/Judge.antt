-- The judgement of a closed frame, steps 1 to 6, and how the meaning's ending follows from it (01, "judged in this order"). Assumes nothing.
use Rattle.std.specs.Prelude.{ℕ, Bool, not, List, length, eqb, ltb}
use Rattle.meaning.specs.Bytes.{pick, either, arg, differ}
use Rattle.meaning.specs.State.{Plate, State}
use Rattle.meaning.specs.Commands.{command_of, row, asked, refuse, worked}
use Rattle.meaning.specs.Characters.{Frame}
use Rattle.meaning.specs.Frames.{command_byte, data_of, Ending, short, elsewhere, answered}
use Rattle.line.specs.declared.judge.Judgement.{Judgement}
use Rattle.line.specs.declared.judge.Judgement.TheVariants.{Short, Elsewhere, Fault, Request}

-- 01, "Broadcast FFh is taken too"
unfoldable pub addressed : ℕ → ℕ → Bool
addressed to own = either (eqb to own) (eqb to 0xFF)

-- 01, "judged in this order", 1: a frame that is passed over in silence
unfoldable pub is_silent : ℕ → List ℕ → Bool
is_silent own bytes = either (ltb (length bytes) 3) (not (addressed (arg bytes 0) own))

-- an error code to answer, by its byte
abbrev pub fault : ℕ → Judgement
fault e = Fault (record { byte = e })

-- 01, "judged in this order", 1 to 6: silence, silence, 09h, 0Ah, 0Ch, 0Bh, 0Ch; `own` is the board's own address byte
unfoldable pub judgement_of : ℕ → Frame → Judgement
judgement_of own b =
    pick (ltb (length b.bytes) 3) Short
    (pick (not (addressed (arg b.bytes 0) own)) Elsewhere
    (pick b.parity (fault 0x09)
    (pick (differ b.sum 0) (fault 0x0A)
    (pick b.longer (fault 0x0C)
    (pick (not (row (command_of (command_byte b.bytes))).known) (fault 0x0B)
    (pick (not (asked (command_of (command_byte b.bytes)) (data_of b.bytes))) (fault 0x0C)
    (Request (command_byte b.bytes))))))))

-- the error code to answer, 00h where there is none
abbrev pub code_to_answer : Judgement → ℕ
code_to_answer Short = 0
code_to_answer Elsewhere = 0
code_to_answer (Fault e) = e.byte
code_to_answer (Request c) = 0

-- how the frame ends, by each judgement: a request goes on with the command's own checks, step 7
abbrev pub ending_by : Plate → State → List ℕ → Frame → Judgement → Ending
ending_by p s m b Short = short
ending_by p s m b Elsewhere = elsewhere
ending_by p s m b (Fault e) = answered (refuse e.byte)
ending_by p s m b (Request c) = answered (worked (command_of c) p s m (data_of b.bytes))
