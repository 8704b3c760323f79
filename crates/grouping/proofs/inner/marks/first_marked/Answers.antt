-- Of the configs before it is not so.
use native.Mathlib.Omega.{arith}
use Rattle.grouping.specs.FirstMarked.{marks, not_yet_more, beq_same, beq_other}
use Rattle.grouping.proofs.inner.marks.first_marked.Goals as goal

pub returns-then-found-marked : goal.returns-then-found-marked
unfolding marks
returns-then-found-marked c =
    let config-count = c.config_count-count in
    let loop = c.loop-place in
    let loop-test = c.loop-place-test in
    (omega (arith, loop-test.true, config-count.ensures), beq_same _ _ c.if-found-marked.true, loop.invariant)

pub loop-place-preserved : goal.loop-place-preserved
unfolding marks
loop-place-preserved c = not_yet_more c.args.scratch.now _ _ c.loop-place.invariant (beq_other _ _ c.if-found-marked.false)
