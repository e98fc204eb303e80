-- What is left to show of `bench::request::is_allowed`: the length is right by the code's row, then the numbers are in range.
use Rattle.std.specs.Prelude.{Some}
use Rattle.std.proofs.lemmas.Grind.{common_steps}
use Rattle.meaning.specs.Bytes.{both}
use Rattle.meaning.specs.State.{between}
use lib.Dec.{ltb, leb, eqb}
use Rattle.std.proofs.Common.{rules, ◌≡◌, ℕ, Bool, ◌&&◌, is_le, cond, true, false, Less, Equal, Greater, arith, ◌∙◌, sym, refl}
use Rattle.bench.proofs.Laws.{fits-asked, none-allowed, not-asked, asked_well, in_range_4a, in_range_4f, in_range_else}
use Rattle.bench.proofs.request.is_allowed.Goals as goal

-- what the range's `contains` tells
le_told : (a b : ℕ) → is_le (cond (ltb a b) Less (cond (eqb a b) Equal Greater)) ≡ leb a b
le_told a b = grind (arith, common_steps)

both_and : (a b : Bool) → both a b ≡ a && b
both_and true b = refl
both_and false b = refl

between_told : (n : ℕ) → between 1 128 n ≡ is_le (cond (ltb 1 n) Less (cond (eqb 1 n) Equal Greater)) && is_le (cond (ltb n 128) Less (cond (eqb n 128) Equal Greater))
between_told n = rw (le_told 1 n, le_told n 128) (both_and (leb 1 n) (leb n 128))

pub returns-in_default : goal.returns-in_default
returns-in_default c = sym (none-allowed _ _ c.in_default.ensures)

pub returns-then-not-length_fits : goal.returns-then-not-length_fits
returns-then-not-length_fits c =
    let right = fits-asked (Some c.in-Some.row) _ _ _ c.in-Some.ensures (c.length_fits.ensures _ refl) in
    sym (not-asked _ _ (right ∙ c.if-not-length_fits.true))

pub returns-in-74 : goal.returns-in-74
returns-in-74 c =
    let right = fits-asked (Some c.in-Some.row) _ _ _ c.in-Some.ensures (c.length_fits.ensures _ refl) in
    let e = rw (c.new.ensures.start, c.new.ensures.end, c.new.ensures.exhausted) at c.contains.ensures.value in
    sym (asked_well _ _ _ (right ∙ c.if-not-length_fits.false) (in_range_4a _ _ _ c.in-74.is c.byte_at.ensures ∙ between_told c.byte_at.result ∙ sym e))

pub returns-in-79 : goal.returns-in-79
returns-in-79 c =
    let right = fits-asked (Some c.in-Some.row) _ _ _ c.in-Some.ensures (c.length_fits.ensures _ refl) in
    sym (asked_well _ _ _ (right ∙ c.if-not-length_fits.false) (in_range_4f _ _ _ c.in-79.is c.byte_at-in-79.ensures))

pub returns-in_default-command : goal.returns-in_default-command
returns-in_default-command c =
    let right = fits-asked (Some c.in-Some.row) _ _ _ c.in-Some.ensures (c.length_fits.ensures _ refl) in
    let e = right ∙ c.if-not-length_fits.false in
    sym (asked_well _ _ _ e (in_range_else _ _ e (search rules) (search rules)))
