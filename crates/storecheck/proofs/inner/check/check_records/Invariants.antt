-- The records up to `context` have passed; the first that does not ends the check.
use Rattle.recordcheck.specs.Check.{Passed}
use Rattle.storecheck.proofs.inner.check.check_records.Given as goal

abbrev pub invariant-loop-context : goal.invariant-loop-context
invariant-loop-context l = Passed l.store l.scratch l.context l.pool
