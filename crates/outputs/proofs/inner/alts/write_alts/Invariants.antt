-- Config by config; what is known before each is `Writing`.
use Rattle.outputs.specs.Alts.{Writing}
use Rattle.outputs.proofs.inner.alts.write_alts.Given as goal

abbrev pub invariant-loop-place : goal.invariant-loop-place
invariant-loop-place l = Writing l.set l.place l.written l.output
