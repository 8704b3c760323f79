-- Config by config; what is known before each is `FirstsSoFar`.
use native.Mathlib.Omega.{arith}
use Rattle.grouping.specs.Step.{gather_none, gather_fits}
use Rattle.grouping.proofs.inner.lead.lead_all.Goals as goal

pub loop-place-init : goal.loop-place-init
loop-place-init c =
    let args = c.args in
    let clear-range = c.clear_range in
    let pre = c.requires in
    gather_none args.set.now args.alike args.scratch.now pre clear-range.new.words clear-range.ensures

pub overflow_add-firsts : goal.overflow_add-firsts
overflow_add-firsts c =
    let config-count = c.config_count-count in
    let lead = c.lead-firsts in
    let loop = c.loop-place in
    let loop-test = c.loop-place-test in
    omega (arith, gather_fits loop.invariant (omega (arith, loop-test.true, config-count.ensures)) lead.new.scratch lead.result lead.ensures)
