-- `stack_entry` reads both words, by computation.
use mathlib.Core.Path.{refl}
use Rattle.layout.specs.Scratch.{stack_parent, stack_state}
use Rattle.index.proofs.reads.stack_entry.Goals as goal

pub returns : goal.returns
unfolding stack_parent stack_state
returns c = refl
