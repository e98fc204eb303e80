-- What is left to show of `quicksetter::events::answered`: a frame that is passed over, one that is no request, and a request.
use Rattle.std.proofs.Common.{refl, sym, ◌∙◌, arith, take, drop, rules, ℕ, ◌<◌, ◌+◌, ◌-◌}
use Rattle.meaning.specs.Bytes.{arg}
use borrow.Author.Tests.{eq-eqb}
use Rattle.line.specs.Line.{frame_of}
use Rattle.line.proofs.Judging.{passed_over}
use Rattle.board.proofs.Endings.{unasked}
use Rattle.board.proofs.Sending.{fault-silent}
use Rattle.image.proofs.Round.{good}
use Rattle.quicksetter.proofs.Heads.{ours-length, lent-small}
use Rattle.quicksetter.proofs.Closing.{low-own, may-answer, at_most}
use Rattle.quicksetter.proofs.Serving.{fine, refusal-answered, request_servable, request-answered}
use Rattle.quicksetter.proofs.events.answered.Goals as goal

pub slice_bounds-core-end : goal.slice_bounds-core-end
slice_bounds-core-end c = omega (arith, ours-length _ c.requires.ours)

pub own-own-requires : goal.own-own-requires
own-own-requires c =
    let u = fine c.args.image.now c.args.memory.now c.args.room.now c.requires in
    (omega (arith, (good _ u.bytes).all), low-own _ _ _ c.args.memory.now c.args.room.now u)

pub slice_bounds-is_silent-end : goal.slice_bounds-is_silent-end
slice_bounds-is_silent-end c =
    let u = fine c.args.image.now c.args.memory.now c.args.room.now c.requires in
    omega (arith, at_most _ _ _ c.args.memory.now c.args.room.now u c.frame_in-frame.ensures, (good _ u.bytes).all)

pub returns-then-is_silent : goal.returns-then-is_silent
returns-then-is_silent c =
    let kept = take (30 + c.frame_in-frame.result.len - 30) (drop 30 (take 165 (drop 47 c.args.image.now))) in
    let over = passed_over c.own-own.result (frame_of c.frame_in-frame.result kept) (sym c.is_silent.ensures ∙ c.if-is_silent.true) in
    let bytes : (i : ℕ) → arg c.args.image.now i < 256 = λ i. search rules in
    let small = lent-small _ c.requires.ours bytes in
    refusal-answered c.args.image.now c.args.memory.now c.args.room.now c.requires c.frame_in-frame.ensures _ _ small c.own-own.ensures refl
    over.0 (fault-silent _ _ (eq-eqb _ _ over.1))

pub slice_bounds-judged-end : goal.slice_bounds-judged-end
slice_bounds-judged-end c =
    let u = fine c.args.image.now c.args.memory.now c.args.room.now c.requires in
    omega (arith, at_most _ _ _ c.args.memory.now c.args.room.now u c.frame_in-frame.ensures, (good _ u.bytes).all)

pub refuse-requires : goal.refuse-requires
refuse-requires c =
    rw c.state_in-state.ensures
    (may-answer _ _ _ c.args.memory.now c.args.room.now (fine c.args.image.now c.args.memory.now c.args.room.now c.requires))

pub returns-in_default : goal.returns-in_default
returns-in_default c =
    let bytes : (i : ℕ) → arg c.args.image.now i < 256 = λ i. search rules in
    let small = lent-small _ c.requires.ours bytes in
    refusal-answered c.args.image.now c.args.memory.now c.args.room.now c.requires c.frame_in-frame.ensures c.judged-judgement.result _ small
    c.own-own.ensures (sym c.judged-judgement.ensures) (unasked c.judged-judgement.result c.in_default.not-Request)
    (rw (c.state_in-state.ensures, c.code.ensures) at c.refuse.ensures)

pub served-requires : goal.served-requires
served-requires c =
    request_servable c.args.image.now c.args.memory.now c.args.room.now c.requires c.frame_in-frame.ensures _
    (sym c.judged-judgement.ensures ∙ c.in-Request.is)

pub returns : goal.returns
returns c =
    request-answered c.args.image.now c.args.memory.now c.args.room.now c.requires c.frame_in-frame.ensures _
    (sym c.judged-judgement.ensures ∙ c.in-Request.is) c.own-own.ensures c.served.ensures
