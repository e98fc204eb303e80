-- What is left to show of `tape::text::hex`.
use Rattle.std.proofs.Common.{◌∙◌, refl, arith}
use Rattle.tape.specs.Text.{hex_of}
use Rattle.tape.proofs.Outputs.{hex_more, none_left, length_hex}
use Rattle.tape.proofs.text.hex.Goals as goal

pub loop-b-preserved : goal.loop-b-preserved
loop-b-preserved c =
    let u = c.loop-b in
    let next = hex_more c.args.s.now u.out u.b-index u.to (omega arith) (omega arith) in
    record {
      place = omega arith;
      left = rw (c.digit-in-loop-b.ensures, c.digit.ensures) next ∙ u.invariant.left;
    }

pub returns : goal.returns
unfolding hex_of
returns c =
    let u = c.loop-b in
    record {
      next = rw (length_hex c.args.s.now) (omega arith);
      bytes = none_left c.args.s.now _ u.b-index u.to hex_of refl (omega arith) u.invariant.left;
      within = omega arith;
    }
