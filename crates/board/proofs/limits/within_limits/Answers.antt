-- What is left to show of `board::limits::within_limits`.
use Rattle.std.proofs.Common.{true, sym, refl, ◌∙◌}
use Rattle.line.specs.Line.{plate_of}
use Rattle.board.proofs.Bounding.{bad-label, bad-plate, too_many, by_state, refused_one, taken_one}
use Rattle.board.proofs.limits.within_limits.Goals as goal
use Rattle.board.proofs.limits.within_limits.Goals.{else-label-eq-LABEL_LENGTH-via-then-label-eq-LABEL_LENGTH+then-is_ok+then-from-le-LONGEST_REQUEST+else-is_ok-2}
use Rattle.board.proofs.limits.within_limits.Goals.{else-label-eq-LABEL_LENGTH-via-then-label-eq-LABEL_LENGTH+then-is_ok+else-from-le-LONGEST_REQUEST}
use Rattle.board.proofs.limits.within_limits.Goals.{else-label-eq-LABEL_LENGTH-via-then-label-eq-LABEL_LENGTH+else-is_ok}
use Rattle.board.proofs.limits.within_limits.Goals.{else-label-eq-LABEL_LENGTH-via-else-label-eq-LABEL_LENGTH}

pub returns-then-is_ok-2 : goal.returns-then-is_ok-2
returns-then-is_ok-2 c =
    λ l k long all. taken_one _ (by_state (plate_of c.args.plate l) c.args.board k {t = true} (sym (c.if-is_ok.ensures l (long ∙ c.if-label-eq-LABEL_LENGTH.true))) (rw c.from.ensures at c.if-from-le-LONGEST_REQUEST.true) all (λ h. c.if-is_ok-2.ensures _ _ refl h))

pub returns : goal.returns
returns c =
    λ l k long all. refused_one _ (elim c.else-label-eq-LABEL_LENGTH.branch [
      | else-label-eq-LABEL_LENGTH-via-then-label-eq-LABEL_LENGTH+then-is_ok+then-from-le-LONGEST_REQUEST+else-is_ok-2 w ↦
          by_state _ _ k (sym (w.is_ok.ensures l (long ∙ w.if-label-eq-LABEL_LENGTH.true)) ∙ w.if-is_ok.true) (rw w.from.ensures at w.if-from-le-LONGEST_REQUEST.true) all
          (λ h. sym w.if-is_ok-2.false ∙ w.is_ok-then-from-le-LONGEST_REQUEST.ensures _ _ refl h)
      | else-label-eq-LABEL_LENGTH-via-then-label-eq-LABEL_LENGTH+then-is_ok+else-from-le-LONGEST_REQUEST w ↦ too_many _ _ k (rw w.from.ensures at w.if-from-le-LONGEST_REQUEST.false)
      | else-label-eq-LABEL_LENGTH-via-then-label-eq-LABEL_LENGTH+else-is_ok w ↦ bad-plate _ _ k (sym (w.is_ok.ensures l (long ∙ w.if-label-eq-LABEL_LENGTH.true)) ∙ w.if-is_ok.false)
      | else-label-eq-LABEL_LENGTH-via-else-label-eq-LABEL_LENGTH w ↦ bad-plate _ _ k (bad-label (plate_of c.args.plate l) (λ e. w.if-label-eq-LABEL_LENGTH.false (sym long ∙ e)))
    ])
