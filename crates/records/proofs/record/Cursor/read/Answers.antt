-- What is left to show of `records::record::Cursor::read`: each of its tests, by the definition.
use Rattle.std.proofs.Common.{arith, refl, ap, length-drop, ◌∙◌}
use Rattle.records.specs.Reader.{read_at}
use Rattle.records.proofs.Windows.{few-left, bad-length, wants_more, all_there, counted_is, kind_is, rest_is}
use Rattle.records.proofs.record.Cursor.read.Goals as goal

pub returns-then-s-at-clause-value : goal.returns-then-s-at-clause-value
returns-then-s-at-clause-value c = few-left _ _ _ (omega (arith, length-drop c.args.self.at c.args.s.now))

pub returns-in_default-clause-value : goal.returns-in_default-clause-value
returns-in_default-clause-value c = rw (← rest_is c.args.s.now _ c.args.self.at refl) (few-left _ _ _ c.in_default.len_below)

pub returns-then-counted-lt2-clause-value : goal.returns-then-counted-lt2-clause-value
returns-then-counted-lt2-clause-value c =
    let left = c.in-len4-up.len_at_least in
    let e = c.from_le_bytes-counted.ensures ∙ counted_is _ left in
    rw (← rest_is c.args.s.now _ c.args.self.at refl) (bad-length _ _ _ left (rw e at c.then-counted-lt2.either))

pub returns-then-rest-size-clause-value : goal.returns-then-rest-size-clause-value
returns-then-rest-size-clause-value c =
    let left = c.in-len4-up.len_at_least in
    let e = c.from_le_bytes-counted.ensures ∙ counted_is _ left in
    rw (← rest_is c.args.s.now _ c.args.self.at refl) (wants_more _ _ _ left (omega (arith, e)) (omega (arith, e)) (omega (arith, e, c.from-size.ensures, c.if-rest-size.true)))

pub returns-clause-value : goal.returns-clause-value
returns-clause-value c =
    let left = c.in-len4-up.len_at_least in
    let e = c.from_le_bytes-counted.ensures ∙ counted_is _ left in
    all_there _ _ _ left (omega (arith, e)) (omega (arith, e)) _ _ _ (c.from-size.ensures ∙ e) (omega (arith, c.from-size.ensures, c.if-rest-size.false)) (c.from_le_bytes.ensures ∙ kind_is _ left) refl
    ∙ ap (read_at c.args.longest c.args.self.at) (rest_is c.args.s.now _ c.args.self.at refl)
