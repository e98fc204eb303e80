-- What is left to show of `programmer::count::requests_for`: the sum over the fields, of which there are few.
use Rattle.std.proofs.Common.{◌∙◌, refl, sym, rules, arith}
use borrow.Author.Tests.{tests}
use Rattle.std.proofs.lemmas.Iterator.{YieldsList-from_map}
use Rattle.std.proofs.lemmas.Iterator.Consumers.{YieldsList-at, YieldsList-from_first, sum_from_yields_List, fits_from_yields_list}
use Rattle.programmer.specs.Reading.{field_as, fields_left}
use Rattle.programmer.proofs.Counting.{cost_of, summed}
use Rattle.programmer.proofs.count.requests_for.Goals as goal

pub sum-requires-clause-fits : goal.sum-requires-clause-fits
sum-requires-clause-fits c =
    fits_from_yields_list c.map.result _
    (YieldsList-from_map _ cost_of (YieldsList-at c.map.ensures.source (YieldsList-from_first field_as fields_left (fields_left c.args.fields) refl)) c.map.ensures.closure (λ y r q k. search (rules, tests)))
    (omega (arith, summed (fields_left c.args.fields), c.requires))

pub returns : goal.returns
returns c =
    sum_from_yields_List c.map.result c.sum.result c.sum.ensures.ran
    (YieldsList-from_map _ cost_of (YieldsList-at c.map.ensures.source (YieldsList-from_first field_as fields_left (fields_left c.args.fields) refl)) c.map.ensures.closure (λ y r q k. search (rules, tests)))
    ∙ sym (summed (fields_left c.args.fields))
