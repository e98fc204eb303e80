-- What is left to show of `quicksetter::replies::qs_judge`.
use Rattle.quicksetter.proofs.Judging.{judged}
use Rattle.quicksetter.proofs.replies.qs_judge.Goals as goal

pub returns : goal.returns
returns c = judged _ c.judge.result c.judge.ensures c.verdict_code.ensures
