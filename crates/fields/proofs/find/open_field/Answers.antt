-- What is left to show of `fields::find::open_field`.
use Rattle.fields.proofs.Finds.{open_barred, open_there}
use Rattle.fields.proofs.find.open_field.Goals as goal

pub returns-then-is_barred : goal.returns-then-is_barred
returns-then-is_barred c t m e = open_barred _ _ _ _ _ _ (c.in_ok-found.ensures t m e) c.if-is_barred.ensures

pub returns : goal.returns
returns c t m e = open_there _ _ _ _ _ _ (c.in_ok-found.ensures t m e) c.if-is_barred.ensures
