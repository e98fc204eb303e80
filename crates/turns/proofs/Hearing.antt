-- What is heard at a place of the window, and of the first record. Assumes nothing.
use Prim.Native.Nat.{ℕ}
use mathlib.Core.Path.{◌≡◌, refl, ◌∙◌}
use mathlib.Core.List.{List}
use native.Mathlib.Omega.{arith}
use lib.ListN.{drop, length-drop}
use Rattle.std.specs.Prelude.{Option, Result, Ok, Err}
use Rattle.records.specs.Reader.{Whole, read_at}
use Rattle.tape.specs.Passes.{longest_record, next_record_by}
use Rattle.records.specs.declared.record.Unread.{Unread}
use Rattle.records.specs.declared.record.Unread.TheVariants.{More, Bad}
use Rattle.records.proofs.Windows.{record_read}
use Rattle.tape.proofs.Windows.{next_record-at}
use Rattle.turns.specs.Hearing.{Readout, readout_of, readout_by, readout_at, heard_in, Past, Onward, Hears}
use Rattle.turns.specs.declared.reading.Heard.{Heard}

module _ (at : ℕ) (s : List ℕ) where
  past_it : (w : Whole) → read_at longest_record at (drop at s) ≡ Ok w → Past at s w.next
  past_it w e =
      let r = record_read longest_record at (drop at s) w e in
      record {
        whole = r.past;
        onward = omega (arith, r.past);
        inside = omega (arith, r.past, r.has_kind, r.inside, length-drop at s);
      }

  -- what is told, in the words of a pass
  by_read : (v : Result Whole Unread) → heard_in (readout_by at v) ≡ next_record_by v
  unfolding readout_by next_record_by
  by_read (Ok w) = refl
  by_read (Err More) = refl
  by_read (Err Bad) = refl

  onward : (v : Result Whole Unread) → read_at longest_record at (drop at s) ≡ v → Onward at s (readout_by at v)
  unfolding readout_by
  onward (Ok w) e = λ fits. past_it w e
  onward (Err More) e = tt
  onward (Err Bad) e = λ fits. absurd (fits refl)

  pub hears : (x : Readout) → x ≡ readout_at at s → Hears at s x
  hears x e =
      let v = read_at longest_record at (drop at s) in
      rw e (record { heard = by_read v ∙ next_record-at at (drop at s); next = onward v refl })

  pub hears_as : (r v : Option Heard) → readout_of r ≡ readout_at at s → r ≡ v → Hears at s (readout_of v)
  hears_as r v e k = rw k at (hears (readout_of r) e)
