-- The two stores are those of `put_pool`, by computation.
use mathlib.Core.Path.{refl}
use Rattle.layout.specs.Encode.{put_pool}
use Rattle.layout.proofs.writes.put_pool.Goals as goal

pub returns : goal.returns
unfolding put_pool
returns c = refl
