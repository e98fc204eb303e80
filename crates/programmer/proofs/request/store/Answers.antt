-- What is left to show of `programmer::request::store`: what is written is what is due.
use Rattle.std.proofs.Common.{List, ℕ, ◌∙◌, ap}
use Rattle.meaning.specs.Bench.{writes}
use Rattle.programmer.proofs.Asking.{store_body}
use Rattle.programmer.proofs.request.store.Goals as goal

pub returns : goal.returns
returns c =
    c.write_request.ensures
    ∙ ap (λ (d : List ℕ). writes c.args.address 0x4B d c.args.buffer.now)
    (store_body _ _ _ c.wanted-wanted.ensures _ c.code_for.ensures _ _ c.fill.ensures)
