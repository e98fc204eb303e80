-- What the commands ask of request, survey, memory and room, and the data of a reply in the room. Assumes nothing.
use Rattle.std.specs.Prelude.{ℕ, ◌+◌, ◌≤◌, true, ◌≡◌, List, [], ◌∷◌, length, drop, ltb, Some, Ok}
use Rattle.meaning.specs.Bytes.{longest_reply, most_count, arg, part, put}
use Rattle.meaning.specs.State.{State}
use Rattle.meaning.specs.Fields.{survey}
use Rattle.meaning.specs.Commands as Commands
use Rattle.meaning.specs.Commands.{Command, asked, error, accept}
use Rattle.wire.specs.Answers.{ToldAnswer}
use Rattle.fields.specs.declared.seen.Survey.{Survey}
use Rattle.fields.specs.Memory.{Lent, survey_of}

-- a request's data d of the length that the command k wants (01, "judged in this order", 6), and what is lent
pub record Asked (k : Command) (total : ℕ) (m d w : List ℕ) : Type 0 where
  pub lent : Lent total m w
  pub wanted : asked k d ≡ true

-- .. with a survey v of that memory, made for the field that the request names, and the four codes
pub record Looked (k : Command) (v : Survey) (cs m d w : List ℕ) : Type 0 where
  pub asked : Asked k v.total m d w
  pub seen : survey_of v ≡ survey v.total m (arg d 0)
  pub codes : length cs ≡ 4

-- a request that a survey v is enough for: no memory is read
pub record Tellable (k : Command) (v : Survey) (d w : List ℕ) : Type 0 where
  pub wanted : asked k d ≡ true
  pub few : v.first ≤ 65535
  pub room : longest_reply ≤ length w

-- 01, row 4Eh: two numbers that fit a byte each
pub record Countable (v : Survey) (w : List ℕ) : Type 0 where
  pub free : v.free ≤ 255
  pub fields : v.fields ≤ 255
  pub room : longest_reply ≤ length w

-- the data d stands in the room w', and is told
pub record Replied (d w : List ℕ) (r : ToldAnswer) (w' : List ℕ) : Type 0 where
  pub answer : r ≡ Ok (Some (length d))
  pub room : w' ≡ put w 2 d

-- 01, rows 4Ah and 4Bh: field, offset, count
abbrev pub named : List ℕ → List ℕ
named d = arg d 0 ∷ arg d 1 ∷ arg d 2 ∷ []

pub record Repeatable (d w : List ℕ) : Type 0 where
  pub long : 4 ≤ length d
  pub room : longest_reply ≤ length w

-- 4Ah: a count that a reply has room for
pub record Readable (d w : List ℕ) : Type 0 where
  pub long : length d ≡ 4
  pub few : arg d 2 ≤ most_count
  pub room : longest_reply ≤ length w

-- 4Bh: as many bytes as the count says
pub record Storable (d w : List ℕ) : Type 0 where
  pub long : length d ≡ 4 + arg d 2
  pub some : 5 ≤ length d
  pub room : longest_reply ≤ length w

-- 01, "11h: offset + count exceeds the field's bytes", then the field's own bytes are told
abbrev pub read_own : List ℕ → List ℕ → State → List ℕ → Commands.Answer
read_own own d s m = error 0x11 (ltb (length own) (arg d 1 + arg d 2)) (accept (arg d 0 ∷ arg d 1 ∷ arg d 2 ∷ part own (arg d 1) (arg d 2)) s m)

-- .. or stored
abbrev pub store_own : List ℕ → List ℕ → State → Commands.Answer
store_own own d s = error 0x11 (ltb (length own) (arg d 1 + arg d 2)) (accept (named d) s (put own (arg d 1) (drop 4 d)))
