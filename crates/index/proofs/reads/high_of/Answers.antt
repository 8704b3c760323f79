-- `high_of` reads `high`, by computation.
use mathlib.Core.Path.{refl}
use Rattle.layout.specs.Scratch.{high}
use Rattle.index.proofs.reads.high_of.Goals as goal

pub returns : goal.returns
unfolding high
returns c = refl
