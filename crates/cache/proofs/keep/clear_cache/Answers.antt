-- The cleared range and the two stores are those of `cleared_cache`.
use Rattle.cache.specs.Cache.{cleared_cache}
use Rattle.cache.specs.Keeping.{cleared_emptied}
use Rattle.cache.proofs.keep.clear_cache.Goals as goal

pub returns : goal.returns
unfolding cleared_cache
returns c =
    rw c.clear_range.ensures (cleared_emptied c.args.scratch.now c.told-scratch)
