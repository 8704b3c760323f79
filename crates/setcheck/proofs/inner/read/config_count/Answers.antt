-- Word 0.
use mathlib.Core.Path.{refl}
use Rattle.sets.specs.Layout.{config_count}
use Rattle.setcheck.proofs.inner.read.config_count.Goals as goal

pub returns : goal.returns
unfolding config_count
returns c = refl
