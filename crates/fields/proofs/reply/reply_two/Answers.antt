-- What is left to show of `fields::reply::reply_two`.
use Rattle.std.proofs.Common.{[], ◌∷◌, refl, arith}
use Rattle.meaning.proofs.Puts.{stored_is-put}
use Rattle.fields.proofs.reply.reply_two.Goals as goal

pub returns : goal.returns
returns c = record { answer = refl; room = stored_is-put c.args.room.now 2 (c.args.first ∷ c.args.second ∷ []) (omega arith) }
