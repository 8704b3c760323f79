-- `count_of` reads `count`, by computation.
use mathlib.Core.Path.{refl}
use Rattle.layout.specs.Layout.{count}
use Rattle.layout.proofs.reads.count_of.Goals as goal

pub returns : goal.returns
unfolding count
returns c = refl
