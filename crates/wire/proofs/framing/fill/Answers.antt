-- What is left to show of `wire::framing::fill`.
use Rattle.std.proofs.Common.{◌≡◌, ◌∙◌, sym, length, arith}
use Rattle.meaning.proofs.Puts.{put_front}
use lib.Seq.{take-length}
use Rattle.wire.proofs.framing.fill.Goals as goal

pub returns : goal.returns
returns c =
    let s = c.args.src.now in
    let e : c.loop-i.i ≡ length s = omega arith in
    simp take-length at (rw e at c.loop-i.invariant.copied) ∙ sym (put_front c.args.dst.now s)
