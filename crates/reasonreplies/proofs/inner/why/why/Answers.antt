-- The states held, the call, and its line.
use mathlib.Core.Path.{refl}
use Rattle.lines.specs.LayoutLayout.{blank}
use Rattle.verdictreplies.specs.Figured.{held_stops_lem}
use Rattle.reasonreplies.specs.Because.{why_told, why_refused}
use Rattle.std.specs.Prelude.{Ok}
use Rattle.reasonreplies.proofs.inner.why.why.Goals as goal

pub returns-in-Ok : goal.returns-in-Ok
unfolding blank
returns-in-Ok c =
    why_told c.args.out.now _ _ _ _ _ _ _ _ _ _ (held_stops_lem c.args.stops.now _ c.held.ensures) refl (Ok c.in-Ok.reason) c.in-Ok.ensures c.lay_reason.ensures

pub returns-in-Err : goal.returns-in-Err
unfolding blank
returns-in-Err c =
    why_refused c.args.out.now _ _ _ _ _ _ _ _ _ _ (held_stops_lem c.args.stops.now _ c.held.ensures) refl c.in-Err.refusal c.in-Err.ensures c.lay_refusal.ensures
