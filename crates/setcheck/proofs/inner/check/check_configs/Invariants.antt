-- The configs up to `place` have passed, and the flags are theirs; the first that does not pass ends the check.
use Rattle.setcheck.specs.Judged.{Gathered}
use Rattle.setcheck.proofs.inner.check.check_configs.Given as goal

abbrev pub invariant-loop-place : goal.invariant-loop-place
invariant-loop-place l = Gathered l.set l.initial.scratch l.contexts l.place l.flags l.scratch
