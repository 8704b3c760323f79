-- `link_of` reads `link`, by computation.
use mathlib.Core.Path.{refl}
use Rattle.layout.specs.Scratch.{link}
use Rattle.index.proofs.reads.link_of.Goals as goal

pub returns : goal.returns
unfolding link
returns c = refl
