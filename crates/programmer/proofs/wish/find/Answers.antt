-- What is left to show of `programmer::wish::find`: the field at place i of the wanted fields.
use Rattle.std.proofs.Common.{refl}
use Rattle.std.proofs.lemmas.Iterator.Consumers.{nth_from_yields_List, YieldsList-from_first}
use Rattle.programmer.specs.Reading.{field_as, fields_left}
use Rattle.programmer.proofs.Reading.{finds, all_of}
use Rattle.programmer.proofs.wish.find.Goals as goal

pub returns : goal.returns
returns c =
    finds _ _ _ (rw (← all_of c.args.tape.now, ← c.first_fields.ensures.fields)
    (nth_from_yields_List c.nth.result c.nth.new.self c.args.i c.nth.ensures.ran (YieldsList-from_first field_as fields_left _ refl)))
