-- Config by config; what is known before each is `Filling`.
use Rattle.outputs.specs.Written.{Filling}
use Rattle.outputs.proofs.inner.subsets.write_groups.Given as goal

abbrev pub invariant-loop-place : goal.invariant-loop-place
invariant-loop-place l = Filling l.set l.scratch l.place l.at l.output
