-- The states held, the call, and its line.
use Rattle.verdictreplies.specs.Figured.{held_stops_lem, told_all, told_refused}
use Rattle.verdictreplies.proofs.inner.verdict.verdict.Goals as goal

pub returns-in-Ok : goal.returns-in-Ok
returns-in-Ok c =
    told_all c.args.out.now _ _ _ _ _ _ _ _ (held_stops_lem c.args.stops.now _ c.held.ensures) c.in-Ok.all c.in-Ok.ensures c.lay_figures.ensures

pub returns-in-Err : goal.returns-in-Err
returns-in-Err c =
    told_refused c.args.out.now _ _ _ _ _ _ _ _ (held_stops_lem c.args.stops.now _ c.held.ensures) c.in-Err.refusal c.in-Err.ensures c.lay_refusal.ensures
