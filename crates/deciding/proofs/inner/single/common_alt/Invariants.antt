-- The configs before have the alternative of the first; `Alone` says what follows.
use Rattle.deciding.specs.Alone.{Same}
use Rattle.deciding.proofs.inner.single.common_alt.Given as goal

abbrev pub invariant-loop-place : goal.invariant-loop-place
invariant-loop-place l = Same l.set l.place
