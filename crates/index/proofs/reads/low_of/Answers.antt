-- `low_of` reads `low`, by computation.
use mathlib.Core.Path.{refl}
use Rattle.layout.specs.Scratch.{low}
use Rattle.index.proofs.reads.low_of.Goals as goal

pub returns : goal.returns
unfolding low
returns c = refl
