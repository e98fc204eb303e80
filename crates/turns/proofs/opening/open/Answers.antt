-- What is left to show of `turns::opening::open`.
use Rattle.std.proofs.Common.{refl, sym, ◌∙◌}
use Rattle.meaning.specs.Bytes.{zeros}
use Rattle.meaning.specs.State.{label_length}
use Rattle.turns.proofs.Beginning.{plate-begins, plate-refused}
use Rattle.turns.proofs.opening.open.Goals as goal

pub returns-then-not-is_ok : goal.returns-then-not-is_ok
returns-then-not-is_ok c =
    rw (← c.hear.ensures, c.in_ok-heard.ensures.ok_part)
    (plate-refused _ _ _ c.in-Plate.is (rw (c.from.ensures, c.from-2.ensures, c.from-3.ensures, c.from-4.ensures, c.from-5.ensures))
    (sym (c.is_ok.ensures (zeros label_length) refl) ∙ c.if-not-is_ok.true))

pub returns : goal.returns
returns c =
    rw (← c.hear.ensures, c.in_ok-heard.ensures.ok_part)
    (plate-begins _ _ _ c.in-Plate.is (rw (c.from.ensures, c.from-2.ensures, c.from-3.ensures, c.from-4.ensures, c.from-5.ensures))
    (sym (c.is_ok.ensures (zeros label_length) refl) ∙ c.if-not-is_ok.false))
