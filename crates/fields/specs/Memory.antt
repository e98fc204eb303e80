-- The lent memory as the code holds it: its size, and what a walk of the table finds. Assumes nothing.
use Rattle.std.specs.Prelude.{ℕ, ◌+◌, ◌*◌, ◌≤◌, ◌<◌, ◌≡◌, List, length, drop}
use Rattle.meaning.specs.Bytes.{longest_reply}
use Rattle.meaning.specs.Fields as meaning
use Rattle.fields.specs.declared.seen.Survey.{Survey}
use Rattle.fields.specs.declared.table.Tally.{Tally}

-- 01, "Plate" and "Memory": at most 112 blocks, and 17T bytes
pub record Sized (total : ℕ) (m : List ℕ) : Type 0 where
  pub few : total ≤ 112
  pub long : length m ≡ meaning.memory_length total

-- .. with a room that is large enough (R3)
pub record Lent (total : ℕ) (m w : List ℕ) : Type 0 where
  pub fit : Sized total m
  pub room : longest_reply ≤ length w

-- as many status bytes as blocks
pub record Statuses (total : ℕ) (l : List ℕ) : Type 0 where
  pub few : total ≤ 65535
  pub long : length l ≡ total

-- a count that has come to some place among status bytes, with at most eight blocks to a byte
pub record Counted (l : List ℕ) (from : Tally) : Type 0 where
  pub within : from.fields ≤ length l
  pub small : from.blocks ≤ 8 * from.fields
  pub few : length l ≤ 65535

-- 01, "03h": .. goes on over the fields that stand there, and their blocks
pub record CountedOn (l : List ℕ) (from r : Tally) : Type 0 where
  pub fields : r.fields ≡ from.fields + meaning.field_count (drop from.fields l)
  pub blocks : r.blocks ≡ from.blocks + meaning.used (drop from.fields l)

-- the survey that the struct stands for
abbrev pub survey_of : Survey → meaning.Survey
survey_of v = record { trusted = v.sound; fields = v.fields; free = v.free; first = v.first; status = v.status }

-- 01, "Memory": what is seen of a memory m of t blocks, for the field f
pub record Saw (t : ℕ) (m : List ℕ) (f : ℕ) (r : Survey) : Type 0 where
  pub total : r.total ≡ t
  pub seen : survey_of r ≡ meaning.survey t m f

-- 01, "Fields lie one after another from block 0": what a survey of a sound table tells of field f. Each field has a block, and ends where the free blocks begin or before
pub record Sits (t : ℕ) (v : meaning.Survey) (f : ℕ) : Type 0 where
  pub room : v.fields + v.free ≤ t
  pub own : f < v.fields → v.first + meaning.blocks v.status + v.free ≤ t
