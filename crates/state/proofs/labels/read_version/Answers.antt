-- What is left to show of `state::labels::read_version`.
use Rattle.std.proofs.Common.{◌≡◌, ◌∙◌, ap, sym, refl, drop, arith}
use lib.ListN.{length-drop}
use lib.Seq.{length-take-le}
use Rattle.meaning.specs.Bytes.{part, put, zeros}
use Rattle.meaning.specs.Commands.{c56, read_version, worked}
use Rattle.state.specs.Effects.{row_effect}
use Rattle.meaning.proofs.Puts.{put_all}
use Rattle.state.proofs.Ways.{told-label}
use Rattle.state.proofs.labels.read_version.Goals as goal

pub returns : goal.returns
unfolding worked read_version row_effect part
returns c =
    let told = part c.args.label.now 4 37 in
    let long = length-take-le 37 (drop 4 c.args.label.now) (rw (length-drop, c.requires.0) (omega arith)) in
    let copied : _ ≡ told = c.fill.ensures ∙ put_all (zeros 37) told (sym long) in
    λ p s l m d e.
    told-label c56 p s l m d _ 4 37 refl refl (rw e c.requires.0) (omega arith) c.accepted.ensures (rw e (c.put_data.ensures ∙ ap (put _ 2) copied))
