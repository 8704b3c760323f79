-- The three stores are those of `put_record`, by computation.
use mathlib.Core.Path.{refl}
use Rattle.layout.specs.Encode.{put_record}
use Rattle.layout.proofs.writes.put_record.Goals as goal

pub returns : goal.returns
unfolding put_record
returns c = refl
