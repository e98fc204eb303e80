-- What is left to show of `exchange::asking::converse`: the reply lies within its room, and the sent request is closed and judged.
use Rattle.std.proofs.Common.{ℕ, ◌+◌, ◌%◌, ◌^◌, sym, ap, ◌∙◌, arith}
use lib.Seq.{length-take-le}
use Rattle.meaning.proofs.Plates.{longest_pause}
use Rattle.exchange.proofs.Answering.{poll-answered, reply-fits, converses}
use Rattle.exchange.proofs.asking.converse.Goals as goal

pub overflow_cast-full_pause : goal.overflow_cast-full_pause
overflow_cast-full_pause c = record { fits = omega (arith, c.full_pause.ensures c.args.label.now, longest_pause _ c.requires.within.plate) }

pub unwrap-closed-requires : goal.unwrap-closed-requires
unwrap-closed-requires c = poll-answered _ _ _ _ _ _ _ _ c.requires c.send-sent.ensures _ c.poll.ensures

pub slice_bounds-judge-end : goal.slice_bounds-judge-end
slice_bounds-judge-end c =
    rw c.reply_length-reply.ensures (reply-fits _ _ _ _ _ _ _ _ c.requires c.send-sent.ensures _ c.unwrap-closed.ensures c.poll.ensures)

pub slice_bounds-judge-end-2 : goal.slice_bounds-judge-end-2
slice_bounds-judge-end-2 c =
    sym (length-take-le _ _ (rw c.reply_length-reply.ensures (reply-fits _ _ _ _ _ _ _ _ c.requires c.send-sent.ensures _ c.unwrap-closed.ensures c.poll.ensures)))

pub returns : goal.returns
returns c = λ n k d h.
    let at = c.stamp_after-over.ensures ∙ ap (λ (x : ℕ). (c.send-sent.result.last + x) % 2 ^ 32) (c.full_pause.ensures c.args.label.now) in
    converses _ _ _ _ _ _ _ _ c.requires c.send-sent.ensures _ c.unwrap-closed.ensures c.poll.ensures c.ranges.tick.fits at n k d h c.reply_length-reply.ensures c.judge-verdict.ensures
