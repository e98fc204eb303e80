-- What is left to show of `quicksetter::replies::qs_data_part`.
use Rattle.quicksetter.proofs.Judging.{piece_number_lem}
use Rattle.quicksetter.proofs.replies.qs_data_part.Goals as goal

pub returns : goal.returns
returns c = piece_number_lem c.args.request.now c.args.reply.now c.of-piece.result c.judge.result c.judge.ensures c.of-piece.ensures
