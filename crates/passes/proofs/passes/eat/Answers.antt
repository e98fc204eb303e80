-- What is left to show of `passes::passes::eat`: a pass by the way that it begins.
use Rattle.passes.proofs.Eating.{lends, eats_on, not-yet, eats_over, eats_idle, fresh-lends, eats_plate}
use Rattle.passes.proofs.passes.eat.Goals as goal

pub go_on-requires : goal.go_on-requires
go_on-requires c = lends _ _ _ _ _ _ _ c.requires _ c.in-Running.is

pub returns-in-Running : goal.returns-in-Running
returns-in-Running c = eats_on _ _ _ _ _ _ _ c.requires _ c.in-Running.is _ _ _ _ _ c.go_on.ensures

pub go_on-requires-in-Ok : goal.go_on-requires-in-Ok
go_on-requires-in-Ok c = fresh-lends _ _ _ _ _ _ _ c.requires (not-yet _ _ _ _ _ _ _ c.requires c.in_default.not-Running) _ c.in-Ok.ensures

pub returns-in-Ok : goal.returns-in-Ok
returns-in-Ok c = eats_plate _ _ _ _ _ _ _ c.requires (not-yet _ _ _ _ _ _ _ c.requires c.in_default.not-Running) _ c.in-Ok.ensures _ _ _ _ _ c.go_on-in-Ok.ensures

pub returns-then-eq : goal.returns-then-eq
returns-then-eq c =
    eats_over _ _ _ _ _ _ _ c.requires (not-yet _ _ _ _ _ _ _ c.requires c.in_default.not-Running) _ c.if-eq.ensures c.in-Err.ensures _ _ c.refuse.ensures

pub returns-else-eq : goal.returns-else-eq
returns-else-eq c = eats_idle _ _ _ _ _ _ _ c.requires (not-yet _ _ _ _ _ _ _ c.requires c.in_default.not-Running) _ c.if-eq.ensures c.in-Err.ensures
