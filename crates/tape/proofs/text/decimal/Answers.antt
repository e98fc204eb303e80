-- What is left to show of `tape::text::decimal`: the library's digits.
use Rattle.std.proofs.Common.{arith}
use Rattle.tape.proofs.Decimal.{same_digits, few_digits, last_written}
use Rattle.tape.proofs.Texts.{printed_as}
use Rattle.tape.proofs.text.decimal.Goals as goal

pub write_digits-start-requires : goal.write_digits-start-requires
write_digits-start-requires c = (rw (same_digits c.args.n (omega arith)) (few_digits c.args.n (omega arith)), omega arith)

pub copy-requires : goal.copy-requires
copy-requires c = rw (last_written c.args.n _ _ (omega arith) c.write_digits-start.ensures.start c.write_digits-start.ensures.written) c.requires

pub returns : goal.returns
returns c = printed_as (last_written c.args.n _ _ (omega arith) c.write_digits-start.ensures.start c.write_digits-start.ensures.written) c.copy.ensures
