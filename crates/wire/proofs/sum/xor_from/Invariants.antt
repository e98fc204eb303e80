-- What is left to pass, from the sum so far, comes to the whole checksum.
use Rattle.std.proofs.Common.{◌≡◌, drop}
use Rattle.meaning.specs.Bytes.{xor_from}
use Rattle.wire.proofs.sum.xor_from.Given as goal

abbrev pub invariant-loop-byte : goal.invariant-loop-byte
invariant-loop-byte l = xor_from l.sum (drop l.byte-index l.s) ≡ xor_from l.start l.s
