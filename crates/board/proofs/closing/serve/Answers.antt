-- What is left to show of `board::closing::serve`.
use Rattle.std.proofs.Common.{rules, sym, ◌∙◌}
use Rattle.board.proofs.Dispatch.{memory-lent}
use Rattle.board.proofs.closing.serve.Goals as goal

pub ask-sent-requires : goal.ask-sent-requires
ask-sent-requires c =
    (memory-lent _ _ _ _ _ _ c.requires _ (search rules) (sym c.needs_memory.ensures ∙ c.if-needs_memory.true), c.requires.address)
