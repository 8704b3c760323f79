-- The stores are those of `put_result`, by computation.
use Rattle.cache.specs.Cache.{bucket_head, put_result}
use Rattle.cache.proofs.keep.put_result.Goals as goal

pub returns : goal.returns
unfolding put_result bucket_head
returns c = rw c.bucket-chain.ensures.0
