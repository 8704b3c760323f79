-- The bucket is a remainder.
use mathlib.Core.Path.{refl}
use native.Mathlib.Omega.{arith}
use Rattle.cache.specs.Cache.{bucket_of}
use Rattle.cache.proofs.keys.bucket.Goals as goal

pub returns : goal.returns
unfolding bucket_of
returns c = (refl, omega arith)
