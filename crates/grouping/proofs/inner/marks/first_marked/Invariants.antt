-- Of the configs before it is not so.
use Rattle.grouping.specs.FirstMarked.{NotYet}
use Rattle.grouping.proofs.inner.marks.first_marked.Given as goal

abbrev pub invariant-loop-place : goal.invariant-loop-place
invariant-loop-place l = NotYet l.scratch l.marked l.place
