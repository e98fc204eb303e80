-- What is left to show of `image::write::put_state`: a state of the code's types, its row written over the front.
use Rattle.std.proofs.Common.{rules}
use Rattle.image.proofs.Standing.{puts_state, Typed}
use Rattle.image.proofs.write.put_state.Goals as goal

pub returns : goal.returns
returns c =
    let typed : Typed c.args.state = record { codes = search rules; counter = search rules; offset = search rules; measured = search rules } in
    puts_state _ _ typed c.state_row.ensures c.fill.ensures
