-- The smallest of the configs before.
use Rattle.deciding.specs.Alone.{Least}
use Rattle.deciding.proofs.inner.least.least_alt.Given as goal

abbrev pub invariant-loop-place : goal.invariant-loop-place
invariant-loop-place l = Least l.set l.place l.least
