-- The two stores are those of `put_entry`, by computation.
use mathlib.Core.Path.{refl}
use Rattle.index.specs.Writes.{put_entry}
use Rattle.index.proofs.stack.put_entry.Goals as goal

-- src/stack.rt:8:1
pub returns : goal.returns
unfolding put_entry
returns c = refl
