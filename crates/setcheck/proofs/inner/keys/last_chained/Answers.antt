-- The chain is followed link by link; what is known at a link is `Walking`.
use Rattle.setcheck.specs.Keys.{walk_begin, walk_hit, walk_on, walk_end}
use Rattle.setcheck.proofs.inner.keys.last_chained.Goals as goal

pub loop-next-init : goal.loop-next-init
loop-next-init g c = walk_begin c.requires

pub returns-then-passes : goal.returns-then-passes
returns-then-passes g c = walk_hit c.loop-next.next c.loop-next-test.true c.loop-next.invariant c.if-passes.ensures

pub loop-next-smaller : goal.loop-next-smaller
loop-next-smaller g c = (walk_on c.loop-next.next c.loop-next-test.true c.loop-next.invariant c.if-passes.ensures).1

pub loop-next-preserved : goal.loop-next-preserved
loop-next-preserved g c = (walk_on c.loop-next.next c.loop-next-test.true c.loop-next.invariant c.if-passes.ensures).0

pub returns : goal.returns
returns g c = walk_end c.loop-next.next c.loop-next-test.false c.loop-next.invariant
