-- What a record of the answer program's tape says (01, "Kinds"). Assumes nothing.
use Rattle.std.specs.Prelude.{ℕ, List, length, take, eqb, leb}
use Rattle.meaning.specs.Bytes.{pick, arg, little, zeros}
use Rattle.meaning.specs.State.{Plate, label_length}
use Rattle.meaning.specs.Run.{Call, character, poll, measured, fault, power_on}
use Rattle.records.specs.Records.{Found, whole, cut}

-- 01, "fits none of this": an unknown kind, a body too short or too long, a parity byte over 1
pub data Said : Type 0 where
  plate : Plate → Said
  call : Call → Said
  unfit : Said

-- 01, "plate (T, P, a, ticks per bit, pause, a byte each)"; 02, Req 01: "on the tape they are all zero", the label bytes
abbrev pub plate_in : List ℕ → Plate
plate_in b = record { total = arg b 0; bits = arg b 1; address = arg b 2; ticks = arg b 3; pause = arg b 4; label = zeros label_length }

-- 01, "character (tick 4, value, parity fault 0 or 1)"
unfoldable pub character_in : List ℕ → Said
character_in b = pick (leb (arg b 5) 1) (call (character (little (take 4 b)) (arg b 4) (eqb (arg b 5) 1))) unfit

-- 01, "character (tick 4, ..)": the bytes that each kind has; a body of another length fits nothing
unfoldable pub sized : ℕ → List ℕ → Said → Said
sized n b x = pick (eqb (length b) n) x unfit

-- 01, "Kinds: 1 plate ..; 2 character ..; 3 poll (tick 4); 4 measured (4); 5 fault (1); 6 power-on"
unfoldable pub call_of : ℕ → List ℕ → Said
call_of k b =
    pick (eqb k 1) (sized 5 b (plate (plate_in b)))
    (pick (eqb k 2) (sized 6 b (character_in b))
    (pick (eqb k 3) (sized 4 b (call (poll (little b))))
    (pick (eqb k 4) (sized 4 b (call (measured (little b))))
    (pick (eqb k 5) (sized 1 b (call (fault (arg b 0))))
    (pick (eqb k 6) (sized 0 b (call power_on))
    unfit)))))

unfoldable pub said_by : Found → Said  -- 01, "fits none of this or is cut short"
said_by (whole k b) = call_of k b
said_by cut = unfit
