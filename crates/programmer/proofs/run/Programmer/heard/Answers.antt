-- What is left to show of `programmer::run::Programmer::heard`: the request that was due is judged again, and its piece lies within the reply.
use Rattle.std.proofs.Common.{List, ℕ, ◌≡◌, ◌≤◌, ◌∙◌, max, refl, sym, ap, length, take, arith}
use Rattle.programmer.specs.Wishes.{wish_of}
use Rattle.programmer.specs.Steps.{bytes_due}
use Rattle.programmer.specs.declared.step.Standing.TheVariants.{At}
use Rattle.meaning.specs.Bench.{judge}
use Rattle.meaning.proofs.Pieces.{piece_is_data}
use Rattle.bench.proofs.Verdicts.{piece_within, handed_by, cut_out}
use Rattle.programmer.proofs.Hearing.{sends, hears_ended, hears_as, heard-at}
use lib.Seq.{length-take-le}
use Rattle.programmer.proofs.run.Programmer.heard.Goals as goal

pub returns-in_default : goal.returns-in_default
returns-in_default c = hears_ended _ _ _ (λ st e. c.in_default.not-At st e)

pub slice_bounds-request-end : goal.slice_bounds-request-end
slice_bounds-request-end c = rw c.unwrap_or-len.ensures (sends _ (wish_of c.args.tape.now) c.in-At.step _ _ _ refl c.ask.ensures).within

pub slice_bounds-asked-end : goal.slice_bounds-asked-end
slice_bounds-asked-end c =
    let h : c.unwrap_or-len.result ≤ length c.ask.new.buffer =
    rw c.unwrap_or-len.ensures (sends _ (wish_of c.args.tape.now) c.in-At.step _ _ _ refl c.ask.ensures).within in
    sym (length-take-le _ _ h)

pub slice_bounds-on_verdict-end : goal.slice_bounds-on_verdict-end
slice_bounds-on_verdict-end c =
    let q = take c.unwrap_or-len.result c.ask.new.buffer in
    omega (arith, piece_within q c.args.reply.now c.judge-judged.result c.judge-judged.ensures c.of-from.result c.of-from.ensures)

pub returns : goal.returns
returns c =
    let l = wish_of c.args.tape.now in
    let r = c.args.reply.now in
    let q : List ℕ = take c.unwrap_or-len.result c.ask.new.buffer in
    let e : q ≡ bytes_due c.args.self.address l (At c.in-At.step) =
    rw c.unwrap_or-len.ensures (sends _ l c.in-At.step _ _ _ refl c.ask.ensures).bytes in
    let h = handed_by q r c.judge-judged.result c.judge-judged.ensures ∙ sym c.of-from.ensures in
    hears_as l c.args.self r _ _
    (heard-at c.args.self.address l c.args.self.standing c.in-At.step c.in-At.is q r c.on_verdict-next.result e
    (c.on_verdict-next.ensures (judge q r) c.judge-judged.ensures
    (cut_out r c.of-from.result.from c.of-from.result.count ∙ rw h at (piece_is_data q r))))
    (c.max.ensures ∙ ap (max c.args.self.present) c.still_there.ensures)
