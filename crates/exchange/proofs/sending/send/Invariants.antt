-- The loop of `exchange::sending::send`: the board is that of the calls so far.
use Rattle.std.proofs.Common.{◌≡◌, ◌-◌}
use Rattle.line.specs.Line.{plate_of}
use Rattle.exchange.specs.Calls.{stamp_of, Taken}
use Rattle.exchange.proofs.sending.send.Given as goal

abbrev pub invariant-loop-byte : goal.invariant-loop-byte
invariant-loop-byte l = record {
  stamp : l.stamp ≡ stamp_of l.tick l.apart l.byte-index;
  last : l.sent.last ≡ stamp_of l.tick l.apart (l.byte-index - 1);
  taken : Taken (plate_of l.plate l.label) l.fn.board l.tick l.apart l.asked l.initial.kept l.initial.memory l.initial.room l.byte-index l.sent.board l.kept l.memory l.room;
}
