-- What is left to show of `line::judge::OpenFrame::judged`: one of the judge's ways out at each return.
use Rattle.std.proofs.Common.{sym, eq-eqb, ne_eqb}
use Rattle.line.proofs.Judging.{too_short, for_another, parity-fault, wrong_sum, too_long, unknown, wrong_length, requested}
use Rattle.line.proofs.characters.OpenFrame.judged.Goals as goal

pub returns-then-bytes-lt3 : goal.returns-then-bytes-lt3
returns-then-bytes-lt3 c = too_short _ _ c.if-bytes-lt3.true

pub returns-then-not-is_addressed : goal.returns-then-not-is_addressed
returns-then-not-is_addressed c = for_another _ _ c.if-bytes-lt3.false (sym c.if-not-is_addressed.ensures)

pub returns-then-self : goal.returns-then-self
returns-then-self c = parity-fault _ _ c.if-bytes-lt3.false (sym c.if-not-is_addressed.ensures) c.if-self.true

pub returns-then-self-ne0 : goal.returns-then-self-ne0
returns-then-self-ne0 c = wrong_sum _ _ c.if-bytes-lt3.false (sym c.if-not-is_addressed.ensures) c.if-self.false (ne_eqb _ _ c.if-self-ne0.true)

pub returns-then-self-2 : goal.returns-then-self-2
returns-then-self-2 c =
    too_long _ _ c.if-bytes-lt3.false (sym c.if-not-is_addressed.ensures) c.if-self.false (eq-eqb _ _ c.if-self-ne0.false) c.if-self-2.true

pub returns-in_default : goal.returns-in_default
returns-in_default c = unknown _ _ c.if-bytes-lt3.false (sym c.if-not-is_addressed.ensures) c.if-self.false (eq-eqb _ _ c.if-self-ne0.false)
    c.if-self-2.false c.in_default.ensures

pub returns-then-length_fits : goal.returns-then-length_fits
returns-then-length_fits c =
    requested _ _ c.if-bytes-lt3.false (sym c.if-not-is_addressed.ensures) c.if-self.false (eq-eqb _ _ c.if-self-ne0.false)
    c.if-self-2.false c.in-Some.row c.in-Some.ensures c.data_part-request.ensures.value c.length_fits.ensures c.if-length_fits.true

pub returns : goal.returns
returns c =
    wrong_length _ _ c.if-bytes-lt3.false (sym c.if-not-is_addressed.ensures) c.if-self.false (eq-eqb _ _ c.if-self-ne0.false)
    c.if-self-2.false c.in-Some.row c.in-Some.ensures c.data_part-request.ensures.value c.length_fits.ensures c.if-length_fits.false
