-- One word, or none.
use Rattle.grouping.specs.Marks.{marked_if}
use Rattle.grouping.proofs.inner.marks.mark_if.Goals as goal

pub returns-then-found : goal.returns-then-found
unfolding marked_if
returns-then-found c = rw c.if-found.true

pub returns-else-found : goal.returns-else-found
unfolding marked_if
returns-else-found c = rw c.if-found.false
