-- What is left to show of `quicksetter::events::shut`.
use Rattle.std.proofs.Common.{arith}
use Rattle.quicksetter.proofs.Serving.{answered-long, shuts}
use Rattle.quicksetter.proofs.events.shut.Goals as goal

pub slice_bounds-put_frame-end : goal.slice_bounds-put_frame-end
slice_bounds-put_frame-end c = omega (arith, answered-long c.args.image.now _ _ c.requires c.answered-sent.ensures)

pub returns : goal.returns
returns c = shuts c.args.image.now _ _ c.requires c.answered-sent.ensures c.none.ensures c.put_frame.ensures
