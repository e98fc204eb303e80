-- What is left to show of `fields::table::survey`.
use Rattle.std.proofs.Common.{refl}
use Rattle.fields.proofs.Tables.{table_is}
use Rattle.fields.proofs.table.survey.Goals as goal

pub returns : goal.returns
returns c =
    rw (← c.from.ensures) (c.walk.ensures c.args.memory.now (table_is c.args.total c.args.memory.now c.requires _ _ c.bytes_of-from.ensures refl))
