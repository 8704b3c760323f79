-- Config by config; what is known before each is `Marking`.
use Rattle.grouping.specs.Marks.Laws.{Marking}
use Rattle.grouping.proofs.inner.marks.mark_all.Given as goal

abbrev pub invariant-loop-place : goal.invariant-loop-place
invariant-loop-place l = Marking l.set l.by l.place l.initial.scratch l.scratch
