-- What is left to show of `fields::table::count_on`.
use Rattle.std.proofs.Common.{◌≡◌, true, false, ap, sym, ◌∙◌, get_or, arith}
use Rattle.meaning.specs.Fields.{blocks, exists}
use Rattle.fields.proofs.Tables.{blocks_most}
use Rattle.fields.proofs.Walk.{rest_at, count-more, count-stop, count_end, used-more, used-stop, used_end}
use Rattle.fields.proofs.table.count_on.Goals as goal

pub returns-then-not-has_field : goal.returns-then-not-has_field
returns-then-not-has_field c =
    let l = c.args.statuses.now in
    let i = c.loop-status.counted.fields in
    let at = rest_at l c.args.from.fields c.loop-status.status-index i c.loop-status.invariant.here in
    let e : exists (get_or l i 0) ≡ false = ap exists (sym at) ∙ sym c.if-not-has_field.ensures in
    record { fields = omega (arith, count-stop l i (omega arith) e); blocks = omega (arith, used-stop l i (omega arith) e) }

pub loop-status-preserved : goal.loop-status-preserved
loop-status-preserved c =
    let l = c.args.statuses.now in
    let i = c.loop-status.counted.fields in
    let at = rest_at l c.args.from.fields c.loop-status.status-index i c.loop-status.invariant.here in
    let e : exists (get_or l i 0) ≡ true = ap exists (sym at) ∙ sym c.if-not-has_field.ensures in
    let n : c.from.result ≡ blocks (get_or l i 0) = c.from.ensures ∙ c.blocks_in.ensures ∙ ap blocks at in
    record {
      here = omega arith;
      small = omega (arith, blocks_most (get_or l i 0));
      count = omega (arith, count-more l i (omega arith) e);
      sum = omega (arith, used-more l i (omega arith) e);
    }

pub returns : goal.returns
returns c =
    let l = c.args.statuses.now in
    let i = c.loop-status.counted.fields in
    record { fields = omega (arith, count_end l i (omega arith)); blocks = omega (arith, used_end l i (omega arith)) }
