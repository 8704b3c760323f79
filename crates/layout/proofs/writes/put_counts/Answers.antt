-- The two stores are those of `put_counts`, by computation.
use mathlib.Core.Path.{refl}
use Rattle.layout.specs.Encode.{put_counts}
use Rattle.layout.proofs.writes.put_counts.Goals as goal

pub returns : goal.returns
unfolding put_counts
returns c = refl
