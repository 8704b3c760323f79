-- The chain is followed link by link; what is known at a link is `Walking`.
use Rattle.setcheck.specs.Keys.{Walking}
use Rattle.setcheck.proofs.inner.keys.last_chained.Given as goal

abbrev pub invariant-loop-next : goal.invariant-loop-next
invariant-loop-next g l = Walking l.scratch l.bucket (goal.F-pre g l.passes) (goal.F-post g l.passes) l.next

abbrev pub decreases-loop-next : goal.decreases-loop-next
decreases-loop-next g l = l.next
