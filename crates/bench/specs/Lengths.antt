-- How long a reply will be, told by the request and the reply's first two bytes, and what that promises (01, column "Reply data"). Assumes nothing.
use Rattle.std.specs.Prelude.{ℕ, ◌+◌, ◌≤◌, ◌≡◌, not, List, T, eqb, ltb, length, take, Option, Some, None, Result, Ok, Err}
use Rattle.meaning.specs.Bytes.{pick, either, longest_reply, arg}
use Rattle.meaning.specs.Commands.{exactly, counted, never, command_of, row}
use Rattle.meaning.specs.Commands as meaning
use Rattle.meaning.specs.Frames.{command_byte, data_of}
use Rattle.meaning.specs.Bench.{written, bare, error_reply, judge, handed}
use Rattle.meaning.specs.Demands.{accepts}
use Rattle.bench.specs.declared.reply.Refusal.{Refusal}
use Rattle.bench.specs.declared.reply.Refusal.TheVariants.{B0, B4, B5}

-- not known yet; so many bytes; no reply that begins so is taken
abbrev pub Expected : Type 0
Expected = Result (Option ℕ) Refusal

abbrev pub known : Result ℕ Refusal → Expected
known (Ok n) = Ok (Some n)
known (Err b) = Err b

-- 01, "A frame is address, command, data, checksum": three bytes and the data; "3 + the request's count", d being the request's data
unfoldable pub framed : meaning.Length → List ℕ → Expected
framed (exactly n) d = Ok (Some (3 + n))
framed (counted n) d = Ok (Some (3 + n + arg d 2))
framed never d = Err B5

unfoldable pub done_length : ℕ → List ℕ → Expected  -- 01, column "Reply data", of command c
done_length c d = framed (row (command_of c)).reply d

-- B0, B4 and B5 as far as the begun reply s decides them (its address, B3, tells nothing of the length); an error reply has its code as data
unfoldable pub expected_length : List ℕ → List ℕ → Expected
expected_length q s =
    pick (not (written q)) (Err B0)
    (pick (ltb (length s) 2) (Ok None)
    (pick (not (either (eqb (bare s) (command_byte q)) (eqb (bare s) 0x50))) (Err B4)
    (pick (error_reply q s) (Ok (Some 4))
    (done_length (command_byte q) (data_of q)))))

-- a reply that the bench takes is as long as was told when two or more of its bytes had come
abbrev pub LengthTold : Type 0
LengthTold = (q r : List ℕ) (n : ℕ) → 2 ≤ n → T (accepts (judge q r)) → expected_length q (take n r) ≡ Ok (Some (length r))

-- 01, R3: the length that is told is 3 to 134
abbrev pub LengthWithin : Type 0
LengthWithin = (q s : List ℕ) (n : ℕ) → expected_length q s ≡ Ok (Some n) → (3 ≤ n) × (n ≤ longest_reply)

-- .. and so of a reply that the bench takes
abbrev pub TakenFits : Type 0
TakenFits = (q r : List ℕ) → T (accepts (judge q r)) → length r ≤ longest_reply

-- 01, "a piece of the reply itself": it starts at place 2 at most and has at most 131 bytes
abbrev pub PieceFits : Type 0
PieceFits = (q r : List ℕ) → ((handed q r).from ≤ 2) × ((handed q r).count ≤ 131)
