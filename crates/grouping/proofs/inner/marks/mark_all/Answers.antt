-- Config by config; what is known before each is `Marking`.
use native.Mathlib.Omega.{arith}
use Rattle.grouping.specs.Marks.Laws.{marking_begin, marking_next, marking_end}
use Rattle.grouping.proofs.inner.marks.mark_all.Goals as goal

pub loop-place-init : goal.loop-place-init
loop-place-init c =
    let args = c.args in
    let clear-range = c.clear_range in
    let pre = c.requires in
    marking_begin args.set.now args.scratch.now pre clear-range.new.words clear-range.ensures args.by

pub loop-place-preserved : goal.loop-place-preserved
loop-place-preserved c =
    let config-count = c.config_count-count in
    let loop = c.loop-place in
    let loop-test = c.loop-place-test in
    let mark-if = c.mark_if in
    let picked = c.picked-found in
    marking_next loop.invariant (omega (arith, loop-test.true, config-count.ensures)) picked.result picked.ensures mark-if.new.scratch mark-if.ensures

pub returns : goal.returns
returns c =
    let args = c.args in
    let clear-range = c.clear_range in
    let config-count = c.config_count-count in
    let loop = c.loop-place in
    let pre = c.requires in
    marking_end args.set.now args.scratch.now pre _ clear-range.ensures args.by loop.place loop.scratch loop.invariant (omega (arith, c.loop-place-test.false, config-count.ensures))
