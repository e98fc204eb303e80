-- What is left to show of `bench::reply::data_of`: the piece lies within the reply.
use Rattle.std.proofs.Common.{arith}
use Rattle.bench.proofs.Verdicts.{piece_within}
use Rattle.bench.proofs.reply.data_of.Goals as goal

pub slice_bounds-result-end : goal.slice_bounds-result-end
slice_bounds-result-end c =
    omega (arith, piece_within c.args.request.now c.args.reply.now c.judge.result c.judge.ensures _ c.of-from.ensures)
