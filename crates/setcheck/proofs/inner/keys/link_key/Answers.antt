-- Two words: the link to what was the head, and the head.
use mathlib.Core.Path.{refl}
use Rattle.sets.specs.Chains.{linked}
use Rattle.setcheck.proofs.inner.keys.link_key.Goals as goal

pub returns : goal.returns
unfolding linked
returns c = refl
