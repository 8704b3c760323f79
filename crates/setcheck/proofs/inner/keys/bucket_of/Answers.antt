-- The products and sums fit, and the last remainder is below 256.
use native.Mathlib.Omega.{arith}
use Rattle.setcheck.specs.Keys.{key_bucket, weighed_words}
use Rattle.setcheck.proofs.inner.keys.bucket_of.Goals as goal

pub returns : goal.returns
unfolding key_bucket
returns c = (rw (weighed_words c.args.key, c.from.ensures, c.from-2.ensures, c.from-3.ensures, c.from-4.ensures), omega arith)
