-- The configs before are in listed states.
use mathlib.Core.Path.{sym, ◌∙◌}
use native.Mathlib.Omega.{arith}
use Rattle.deciding.specs.Stops.{stopped_all, stopped_not}
use Rattle.deciding.proofs.inner.verdict.all_stopped.Goals as goal

pub returns-then-not-stops_too : goal.returns-then-not-stops_too
returns-then-not-stops_too c =
    let args = c.args in
    sym (stopped_not args.stops.now args.set.now c.loop-place.place (omega arith) (sym c.stops_too.ensures ∙ c.if-not-stops_too.true))

pub returns : goal.returns
returns c =
    let args = c.args in
    sym (stopped_all args.stops.now args.set.now (λ i l. c.loop-place.invariant i (omega arith)))
