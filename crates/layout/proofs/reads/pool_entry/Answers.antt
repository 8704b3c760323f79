-- `pool_entry` reads both words, by computation.
use mathlib.Core.Path.{refl}
use Rattle.layout.specs.Layout.{parent, state}
use Rattle.layout.proofs.reads.pool_entry.Goals as goal

pub returns : goal.returns
unfolding parent state
returns c = refl
