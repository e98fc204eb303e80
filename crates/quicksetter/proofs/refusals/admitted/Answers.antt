-- What is left to show of `quicksetter::refusals::admitted`: R1 first, then R2 and R3.
use Rattle.std.proofs.Common.{sym, ◌∙◌, ap}
use Rattle.meaning.specs.Fields.{memory_length}
use Rattle.line.specs.declared.plate.Plate.{Plate}
use Rattle.quicksetter.proofs.Admitting.{some_number, told-on, told-first, told-size, told-narrow, told-free}
use Rattle.quicksetter.proofs.refusals.admitted.Goals as goal

pub returns-in_err-plate-clause-refusal : goal.returns-in_err-plate-clause-refusal
returns-in_err-plate-clause-refusal c =
    told-on _ _ c.from_residual.ensures.1 ∙ told-first _ _ _ (some_number _) c.in_err-plate.ensures.refusal

pub returns-then-memory-memory_length-clause-refusal : goal.returns-then-memory-memory_length-clause-refusal
returns-then-memory-memory_length-clause-refusal c =
    let whole = c.memory_length.ensures ∙ ap (λ (p : Plate). memory_length p.total) c.in_ok-plate.ensures.plate in
    told-size _ _ _ c.in_ok-plate.ensures.refusal (λ e. c.if-memory-memory_length.true (e ∙ sym whole))

pub returns-then-room-lt-LONGEST_REPLY-clause-refusal : goal.returns-then-room-lt-LONGEST_REPLY-clause-refusal
returns-then-room-lt-LONGEST_REPLY-clause-refusal c =
    let whole = c.memory_length.ensures ∙ ap (λ (p : Plate). memory_length p.total) c.in_ok-plate.ensures.plate in
    told-narrow _ _ _ c.in_ok-plate.ensures.refusal (c.if-memory-memory_length.false ∙ whole) c.if-room-lt-LONGEST_REPLY.true

pub returns-clause-refusal : goal.returns-clause-refusal
returns-clause-refusal c =
    let whole = c.memory_length.ensures ∙ ap (λ (p : Plate). memory_length p.total) c.in_ok-plate.ensures.plate in
    told-free _ _ _ c.in_ok-plate.ensures.refusal (c.if-memory-memory_length.false ∙ whole) c.if-room-lt-LONGEST_REPLY.false
