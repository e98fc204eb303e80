-- What stands next does not depend on the place. Assumes nothing.
use Prim.Native.Nat.{ℕ, ◌+◌, ◌-◌}
use mathlib.Core.Path.{◌≡◌, refl}
use mathlib.Core.Bool.{Bool, true, false}
use mathlib.Core.List.{List}
use lib.ListN.{length}
use lib.Dec.{ltb}
use Rattle.std.specs.Prelude.{Result, Ok, Err}
use Rattle.meaning.specs.Bytes.{pick, part, little}
use Rattle.records.specs.Records.{length_at, whole_length}
use Rattle.records.specs.Reader.{Whole, read_at}
use Rattle.records.specs.declared.record.Unread.{Unread}
use Rattle.records.specs.declared.record.Unread.TheVariants.{More, Bad}
use Rattle.tape.specs.Passes.{longest_record, next_record_by, next_record}

pub next_record-at : (at : ℕ) (t : List ℕ) → next_record_by (read_at longest_record at t) ≡ next_record t
unfolding read_at next_record_by
next_record-at at t = go (ltb (length t) 4) (ltb (length_at t) 2) (ltb longest_record (length_at t)) (ltb (length t) (whole_length t))
  where
    made : ℕ → Result Whole Unread
    made k = Ok (record { kind = little (part t 2 2); start = k + 4; body = part t 4 (length_at t - 2); next = k + whole_length t })

    go : (a b c d : Bool)
        → next_record_by (pick a (Err More) (pick b (Err Bad) (pick c (Err Bad) (pick d (Err More) (made at)))))
        ≡ next_record_by (pick a (Err More) (pick b (Err Bad) (pick c (Err Bad) (pick d (Err More) (made 0)))))
    go true b c d = refl
    go false true c d = refl
    go false false true d = refl
    go false false false true = refl
    go false false false false = refl
