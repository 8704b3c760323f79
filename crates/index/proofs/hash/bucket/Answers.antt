-- The bucket is a quotient, below 512 since a hash is of 64 bits.
use mathlib.Core.Path.{refl}
use native.Mathlib.Omega.{arith}
use Rattle.index.specs.Hash.{bucket_of}
use Rattle.index.proofs.hash.bucket.Goals as goal

-- src/hash.rt:16:1
pub returns : goal.returns
unfolding bucket_of
returns c = (refl, omega arith)
