-- What is left to show of `exchange::sending::send`: the loop begins with no byte sent, and each round sends one more.
use Rattle.std.proofs.Common.{◌∙◌}
use Rattle.exchange.proofs.Stamps.{stamp_first, stamp_next, stamp_kept}
use Rattle.exchange.proofs.Taking.{taken_none, taken_next, character-answered}
use Rattle.exchange.proofs.sending.send.Goals as goal

pub loop-byte-init : goal.loop-byte-init
loop-byte-init c = record {
  stamp = stamp_first _ c.args.apart;
  last = stamp_first _ c.args.apart;
  taken = taken_none _ _ _ _ _ _ _ _ c.requires;
}

pub unwrap-stepped-requires : goal.unwrap-stepped-requires
unwrap-stepped-requires c =
    character-answered _ _ _ _ _ _ _ _ c.requires c.loop-byte.invariant.taken c.character.ensures

pub loop-byte-preserved : goal.loop-byte-preserved
loop-byte-preserved c =
    let v = c.loop-byte.invariant in
    record {
      stamp = c.stamp_after-stamp.ensures ∙ stamp_next c.args.tick c.args.apart c.loop-byte.byte-index v.stamp;
      last = stamp_kept c.args.tick c.args.apart c.loop-byte.byte-index v.stamp;
      taken = taken_next _ _ _ _ _ _ _ _ c.requires c.ranges.tick.fits c.loop-byte.byte-index c.loop-byte-test.true v.stamp v.taken c.character.ensures c.unwrap-stepped.ensures;
    }
