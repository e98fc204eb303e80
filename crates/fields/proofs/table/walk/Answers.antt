-- What is left to show of `fields::table::walk`.
use Rattle.std.proofs.Common.{refl, arith, take}
use Rattle.std.proofs.lemmas.List.{length-take}
use Rattle.meaning.specs.Fields.{status_at}
use Rattle.meaning.proofs.Tables.{count_le}
use Rattle.fields.proofs.Tables.{used_most, halted_at, walk_fields, walk_used, survey-is}
use Rattle.fields.proofs.table.walk.Goals as goal

pub count_on-all-requires : goal.count_on-all-requires
count_on-all-requires c =
    let front = take c.args.field c.args.statuses.now in
    let halted = halted_at c.args.statuses.now _ c.args.field _ c.front.ensures.value c.count_on-before.ensures in
    record {
      within = omega (arith, halted.0, count_le front, length-take c.args.field c.args.statuses.now);
      small = omega (arith, halted.0, halted.1, used_most front);
      few = omega arith;
    }

pub is_blank_from-rest_blank-requires : goal.is_blank_from-rest_blank-requires
is_blank_from-rest_blank-requires c =
    let halted = halted_at c.args.statuses.now _ c.args.field _ c.front.ensures.value c.count_on-before.ensures in
    let all = walk_fields c.args.statuses.now c.args.field _ 0 halted.0 _ c.count_on-all.ensures.fields in
    omega (arith, count_le c.args.statuses.now)

pub returns : goal.returns
unfolding status_at
returns c m e =
    let l = c.args.statuses.now in
    let halted = halted_at l _ c.args.field _ c.front.ensures.value c.count_on-before.ensures in
    let fields = walk_fields l c.args.field _ 0 halted.0 _ c.count_on-all.ensures.fields in
    let blocks = walk_used l c.args.field _ _ halted.0 halted.1 _ c.count_on-all.ensures.blocks in
    record {
      total = refl;
      seen = survey-is c.args.total c.args.field m l e _ c.is_blank_from-rest_blank.result _ _ _ _ _
          fields blocks c.is_blank_from-rest_blank.ensures refl c.saturating_sub.ensures halted.1 c.byte_at.ensures;
    }
