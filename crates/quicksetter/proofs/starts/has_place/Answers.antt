-- What is left to show of `quicksetter::starts::has_place`: with another label no plate is possible.
use Rattle.std.proofs.Common.{◌∙◌, sym}
use borrow.Author.Tests.{eq-eqb, ne_eqb}
use Rattle.line.specs.Line.{plate_of}
use Rattle.meaning.proofs.Choices.{both_true, both_false}
use Rattle.quicksetter.proofs.Starting.{no_label}
use Rattle.quicksetter.proofs.starts.has_place.Goals.{then-image-ne-LENGTH-via-then-image-ne-LENGTH as another, then-image-ne-LENGTH-via-else-image-ne-LENGTH+then-label-ne-LABEL_LENGTH as unlabelled}
use Rattle.quicksetter.proofs.starts.has_place.Goals as goal

pub returns-then-image-ne-LENGTH : goal.returns-then-image-ne-LENGTH
returns-then-image-ne-LENGTH c = elim c.then-image-ne-LENGTH.branch [
  | another w ↦ rw (ne_eqb _ _ w.if-image-ne-LENGTH.true) (sym (both_false _))
  | unlabelled w ↦ rw (no_label (plate_of c.args.plate c.args.label.now) w.if-label-ne-LABEL_LENGTH.true)
]

pub returns : goal.returns
returns c = rw (eq-eqb _ _ c.if-image-ne-LENGTH.false) (c.is_ok.ensures c.args.label.now c.if-label-ne-LABEL_LENGTH.false ∙ sym (both_true _))
