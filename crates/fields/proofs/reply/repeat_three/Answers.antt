-- What is left to show of `fields::reply::repeat_three`.
use Rattle.std.proofs.Common.{arith}
use Rattle.meaning.proofs.Puts.{stored_is-put}
use Rattle.fields.specs.Replies.{named}
use Rattle.fields.proofs.reply.repeat_three.Goals as goal

pub returns : goal.returns
returns c = stored_is-put c.args.room.now 2 (named c.args.request.now) (omega arith)
