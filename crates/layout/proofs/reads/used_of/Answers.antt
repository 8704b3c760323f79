-- `used_of` reads `used`, by computation.
use mathlib.Core.Path.{refl}
use Rattle.layout.specs.Layout.{used}
use Rattle.layout.proofs.reads.used_of.Goals as goal

pub returns : goal.returns
unfolding used
returns c = refl
