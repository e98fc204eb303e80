-- What a look for a field comes to, in the terms of the meaning. Assumes nothing.
use Rattle.std.specs.Prelude.{ℕ, ◌+◌, ◌≤◌, ◌≡◌, List, Result, Ok, Err}
use Rattle.meaning.specs.State.{State}
use Rattle.meaning.specs.Fields.{bytes_of, data_bytes, blocks, Survey, survey}
use Rattle.meaning.specs.Commands.{Answer, refuse, error, on_field, barred}
use Rattle.wire.specs.declared.codes.ErrorCode.{ErrorCode}
use Rattle.fields.specs.declared.find.Field.{Field}

-- a look comes to the field, or to the error code
abbrev pub Look : Type 0
Look = Result Field ErrorCode

-- what follows where the field is there, else the error code
abbrev pub or_else : Look → Answer → Answer
or_else (Ok field) a = a
or_else (Err e) a = refuse e.byte

-- 01, "Fields lie one after another from block 0": the part of memory that a survey gives its field, within the 16T data bytes
pub record Lies (t : ℕ) (v : Survey) (field : Field) : Type 0 where
  pub starts : field.from ≡ bytes_of v.first
  pub ends : field.to ≡ field.from + bytes_of (blocks field.status)
  pub within : field.to ≤ data_bytes t
  pub status : field.status ≡ v.status

abbrev pub Placed : ℕ → Survey → Look → Type 0
Placed t v (Ok field) = Lies t v field
Placed t v (Err e) = Unit

-- 03h; 12h: whatever follows, this is what it comes to
pub record FoundIn (t : ℕ) (m : List ℕ) (f : ℕ) (r : Look) : Type 0 where
  pub chain : (a : Answer) → on_field (survey t m f) f a ≡ or_else r a
  pub place : Placed t (survey t m f) r

-- 03h; 12h; 0Fh: the same with the code c
pub record OpenTo (codes : List ℕ) (c t : ℕ) (m : List ℕ) (f : ℕ) (r : Look) : Type 0 where
  pub chain : (s : State) (a : Answer) → s.codes ≡ codes → on_field (survey t m f) f (error 0x0F (barred s (survey t m f) c) a) ≡ or_else r a
  pub place : Placed t (survey t m f) r
