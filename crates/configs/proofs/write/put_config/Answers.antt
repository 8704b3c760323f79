-- Word after word.
use mathlib.Core.Path.{refl}
use Rattle.sets.specs.Layout.{fields}
use Rattle.configs.specs.Writes.{put_config, put_fields}
use Rattle.configs.proofs.write.put_config.Goals as goal

pub returns : goal.returns
unfolding put_config put_fields fields
returns c = refl
