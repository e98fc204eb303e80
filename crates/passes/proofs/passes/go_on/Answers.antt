-- What is left to show of `passes::passes::go_on`: the front of the lent memory goes out and comes back.
use Rattle.passes.proofs.Eating.{goes-from}
use Rattle.passes.proofs.passes.go_on.Goals as goal

pub returns : goal.returns
returns c =
    goes-from _ _ _ _ _ _ _ _ _ _ _ c.memory_length-size.ensures c.requires _ _ _ _ _ c.play-end.ensures _ c.after_pass.ensures
