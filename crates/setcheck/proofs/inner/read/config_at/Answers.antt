-- Word by word.
use mathlib.Core.Path.{refl}
use Rattle.sets.specs.Layout.{config_at, field}
use Rattle.setcheck.proofs.inner.read.config_at.Goals as goal

pub returns : goal.returns
unfolding config_at field
returns c = refl
