-- What is left to show of `wire::framing::write`.
use Rattle.std.proofs.Common.{List, ℕ, ◌∷◌, ◌-◌, ◌∙◌, ap, length, refl, arith}
use borrow.Rule.Slice.PartMut.{put_mid}
use Rattle.meaning.specs.Bytes.{put, part}
use Rattle.meaning.specs.Frames.{sealed}
use Rattle.wire.proofs.Laws.{tail_filled, seal_data}
use Rattle.wire.proofs.framing.write.Goals as goal

pub returns : goal.returns
returns c =
    let d = c.args.body.now in
    let buffer = c.args.buffer.now in
    let back = ap (put_mid 2 (length buffer - 2) buffer) c.fill.ensures ∙ tail_filled buffer d 2 (omega arith) in
    c.seal.ensures ∙ ap (λ (w : List ℕ). put w 0 (sealed (c.args.address ∷ c.args.command ∷ part w 2 (length d)))) back
    ∙ seal_data c.args.address c.args.command (length d) d buffer refl (omega arith)
