-- No two differing outcomes satisfy a contract of this crate (01, "How tightly the contracts bind"). Assumes nothing.
use Prim.Native.Nat.{ℕ, ◌+◌}
use mathlib.Core.Path.{◌≡◌, refl, sym, ap, ◌∙◌}
use mathlib.Core.List.{List}
use Rattle.std.specs.Prelude.{Result, Ok, Err}
use Rattle.records.specs.Reader.{Whole, read_as, read_at, LiesIn}
use Rattle.records.specs.declared.record.Record.{Record}
use Rattle.records.specs.declared.record.Unread.{Unread}

-- what is read in a window that stands at a place leads back to the code's answer
abbrev read_back : ℕ × ℕ → Result Whole Unread → Result Record Unread
read_back place (Ok w) = Ok (record { kind = w.kind; start = w.start; body = record { ref_ptr = (place.0, w.start + place.1); now = w.body }; next = record { at = w.next } })
read_back place (Err e) = Err e

-- a record whose body lies at another place
abbrev placed : Record → ℕ × ℕ → Record
placed r place = record { kind = r.kind; start = r.start; body = record { ref_ptr = place; now = r.body.now }; next = r.next }

read_back_lem : (place : ℕ × ℕ) (a : Result Record Unread) → LiesIn place a → read_back place (read_as a) ≡ a
read_back_lem place (Ok r) p = ap (λ (q : ℕ × ℕ). Ok (placed r q)) (sym p)
read_back_lem place (Err e) p = refl

-- by both clauses of `read`
pub read_tight : (longest at : ℕ) (t : List ℕ) (place : ℕ × ℕ) (a b : Result Record Unread) → read_as a ≡ read_at longest at t → LiesIn place a
    → read_as b ≡ read_at longest at t → LiesIn place b → a ≡ b
read_tight longest at t place a b p i q j = sym (read_back_lem place a i) ∙ ap (read_back place) (p ∙ sym q) ∙ read_back_lem place b j
