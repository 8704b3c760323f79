-- Config by config; what is known before each is `FirstsSoFar`.
use Rattle.grouping.specs.Step.{FirstsSoFar}
use Rattle.grouping.proofs.inner.lead.lead_all.Given as goal

abbrev pub invariant-loop-place : goal.invariant-loop-place
invariant-loop-place l = FirstsSoFar l.set l.alike l.place l.scratch l.firsts
