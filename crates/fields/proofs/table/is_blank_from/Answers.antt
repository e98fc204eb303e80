-- What is left to show of `fields::table::is_blank_from`.
use Rattle.std.proofs.Common.{◌≡◌, ◌∙◌, ◌↔◌, IsTrue, EachIndex, get_or, ap, sym, arith, rules, take, drop, ◌-◌, ◌*◌, ◌/◌, length}
use Rattle.meaning.specs.Bytes.{blank, little}
use Rattle.fields.proofs.Walk.{rest-is, four_part, four-more, four-stop, blank_each}
use Rattle.fields.proofs.table.is_blank_from.Goals as goal

pub returns-then-number_at-ne0 : goal.returns-then-number_at-ne0
returns-then-number_at-ne0 c =
    let l = drop c.args.place c.args.statuses.now in
    let i = c.loop-four.four-index in
    let at = four_part _ l _ c.as_chunks.result.0.now i (rest-is c.args.statuses.now c.args.place) c.as_chunks.ensures.front (omega arith) in
    sym (c.loop-four.invariant ∙ four-stop l (4 * i) (λ e. c.if-number_at-ne0.true (c.number_at.ensures ∙ ap little at ∙ e)))

pub loop-four-preserved : goal.loop-four-preserved
loop-four-preserved c =
    let l = drop c.args.place c.args.statuses.now in
    let i = c.loop-four.four-index in
    let at = four_part _ l _ c.as_chunks.result.0.now i (rest-is c.args.statuses.now c.args.place) c.as_chunks.ensures.front (omega arith) in
    c.loop-four.invariant ∙ four-more l (4 * i) (ap little (sym at) ∙ sym c.number_at.ensures ∙ c.if-number_at-ne0.false)
    ∙ ap (λ n. blank (drop n l)) (omega arith)

pub returns : goal.returns
returns c =
    let l = drop c.args.place c.args.statuses.now in
    let n = length (take (length c.args.statuses.now - c.args.place) l) in
    let passed : n / 4 * 4 ≡ 4 * c.loop-four.four-index = omega (arith, c.as_chunks.ensures.front_len) in
    let k : IsTrue c.all.result ↔ EachIndex c.as_chunks.result.1.now (λ k. get_or c.as_chunks.result.1.now k 0 ≡ 0) = search rules in
    blank_each c.all.result c.as_chunks.result.1.now k
    ∙ ap blank (c.as_chunks.ensures.back ∙ ap (λ r. drop (n / 4 * 4) r) (rest-is c.args.statuses.now c.args.place) ∙ ap (λ j. drop j l) passed)
    ∙ sym c.loop-four.invariant
