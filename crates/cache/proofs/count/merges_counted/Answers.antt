-- `merges_counted` reads `merges_counted`, by computation.
use mathlib.Core.Path.{refl}
use Rattle.cache.specs.Cache.{merges_counted}
use Rattle.cache.proofs.count.merges_counted.Goals as goal

pub returns : goal.returns
unfolding merges_counted
returns c = refl
