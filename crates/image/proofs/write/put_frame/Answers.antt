-- What is left to show of `image::write::put_frame`.
use Rattle.std.proofs.Common.{◌<◌, ◌^◌, ◌∙◌, rules}
use Rattle.image.proofs.Standing.{flag_of, puts_frame}
use Rattle.image.proofs.write.put_frame.Goals as goal

pub returns : goal.returns
returns c =
    let stamp : c.args.frame.last < 2 ^ 32 = search rules in
    puts_frame _ c.args.core.now c.requires stamp (c.from.ensures ∙ flag_of _) (c.from-2.ensures ∙ flag_of _) (c.from-3.ensures ∙ flag_of _) c.bytes_of.ensures c.fill.ensures
