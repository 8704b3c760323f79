-- Two words, one after the other.
use mathlib.Core.Path.{refl}
use Rattle.grouping.specs.Led.{followed}
use Rattle.grouping.proofs.inner.lead.follow.Goals as goal

pub returns : goal.returns
unfolding followed
returns c = refl
