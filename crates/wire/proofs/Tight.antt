-- No two differing outcomes satisfy a contract: the law for all contracts that are equations, and the frame's own (01, "How tightly the contracts bind"). Assumes nothing.
use mathlib.Core.Path.{◌≡◌, refl, sym, ap, ◌∙◌}
use mathlib.Core.Bool.{Bool}
use mathlib.Core.List.{List}
use Prim.Native.Nat.{ℕ}
use lib.ListN.{length, length-replicate}
use Rattle.std.specs.Prelude.{Option, Some, None, cond}
use Rattle.meaning.specs.Bytes.{zeros}
use Rattle.meaning.specs.State.{Plate, State, fresh, with_address, own_byte}
use Rattle.meaning.specs.Commands.{command_of, row, length_fits}
use Rattle.meaning.specs.Commands as meaning
use Rattle.wire.specs.Table.{length_of, row_of}
use Rattle.wire.specs.declared.table.Length.{Length}
use Rattle.wire.specs.declared.table.Length.TheVariants.{Exactly, Counted, Never}
use Rattle.wire.specs.declared.table.Row.{Row}

-- a contract says what the outcome tells; where that leads back to the outcome, there is one
pub one_outcome : {A B : Type 0} (tells : A → B) (back : B → A) → ((a : A) → back (tells a) ≡ a)
    → (y : B) (a b : A) → tells a ≡ y → tells b ≡ y → a ≡ b
one_outcome tells back same y a b p q = sym (same a) ∙ ap back (p ∙ sym q) ∙ same b

-- .. and so where it says the outcome outright
pub same_outcome : {A : Type 0} (y a b : A) → a ≡ y → b ≡ y → a ≡ b
same_outcome y a b p q = p ∙ sym q

abbrev length_back : meaning.Length → Length
length_back (meaning.exactly n) = Exactly n
length_back (meaning.counted n) = Counted n
length_back meaning.never = Never

length_back_lem : (l : Length) → length_back (length_of l) ≡ l
length_back_lem (Exactly n) = refl
length_back_lem (Counted n) = refl
length_back_lem Never = refl

abbrev row_back : meaning.Row → Option Row
row_back r = cond r.known (Some (record { request = length_back r.request; reply = length_back r.reply; repeats = r.repeats })) None

row_back_lem : (r : Option Row) → row_back (row_of r) ≡ r
row_back_lem (Some r) = λ i. Some (record { request = length_back_lem r.request i; reply = length_back_lem r.reply i; repeats = r.repeats })
row_back_lem None = refl

pub row_of_tight : (c : ℕ) (a b : Option Row) → row_of a ≡ row (command_of c) → row_of b ≡ row (command_of c) → a ≡ b
row_of_tight c a b p q = one_outcome row_of row_back row_back_lem (row (command_of c)) a b p q

pub length_fits_tight : (l : meaning.Length) (d : List ℕ) (n : ℕ) (a b : Bool) → ((x : List ℕ) → length x ≡ n → a ≡ length_fits l d x)
    → ((x : List ℕ) → length x ≡ n → b ≡ length_fits l d x) → a ≡ b
length_fits_tight l d n a b p q = p (zeros n) (length-replicate n 0) ∙ sym (q (zeros n) (length-replicate n 0))

pub own_byte_tight : (p : Plate) (n a b : ℕ) → ((s : State) → s.address ≡ n → a ≡ own_byte s) → ((s : State) → s.address ≡ n → b ≡ own_byte s) → a ≡ b
unfolding with_address
own_byte_tight p n a b h i = h (with_address (fresh p) n) refl ∙ sym (i (with_address (fresh p) n) refl)
