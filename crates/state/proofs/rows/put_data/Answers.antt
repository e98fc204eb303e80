-- What is left to show of `state::rows::put_data`.
use Rattle.std.proofs.Common.{◌-◌, ◌∙◌, ap, length}
use borrow.Rule.Slice.PartMut.{put_mid}
use Rattle.wire.proofs.Laws.{tail_filled}
use Rattle.state.proofs.rows.put_data.Goals as goal

pub returns : goal.returns
returns c =
    let room = c.args.room.now in
    ap (put_mid 2 (length room - 2) room) c.fill.ensures ∙ tail_filled room c.args.bytes.now 2 c.requires
