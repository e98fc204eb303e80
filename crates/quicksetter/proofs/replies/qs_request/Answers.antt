-- What is left to show of `quicksetter::replies::qs_request`.
use Rattle.quicksetter.proofs.Judging.{writes}
use Rattle.quicksetter.proofs.replies.qs_request.Goals as goal

pub returns : goal.returns
returns c = writes c.write_request.result c.write_request.ensures c.written_number.ensures
