-- The record at the front of a tape (01, "records of length (2 bytes, little-endian, counting what follows), kind (2 bytes), body"). Assumes nothing.
use Rattle.std.specs.Prelude.{ℕ, ◌+◌, ◌-◌, List, length, take, leb}
use Rattle.meaning.specs.Bytes.{pick, both, part, little}

-- 01, "length (2 bytes, little-endian, counting what follows)", and how many bytes the record takes with its length
unfoldable pub length_at : List ℕ → ℕ
length_at t = little (take 2 t)

abbrev pub whole_length : List ℕ → ℕ
whole_length t = 2 + length_at t

-- 01, "cut short": the tape ends before the record does, or its length is too short for a kind
pub data Found : Type 0 where
  whole : ℕ → List ℕ → Found
  cut : Found

-- 01, "kind (2 bytes), body": what stands at the front of what is left of a tape
unfoldable pub record_at : List ℕ → Found
record_at t =
    pick (both (leb 2 (length_at t)) (leb (whole_length t) (length t)))
    (whole (little (part t 2 2)) (part t 4 (length_at t - 2)))
    cut
