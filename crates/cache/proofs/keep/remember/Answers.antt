-- A result is put in front of its chain, by `put_remembered`; else as many are kept as are to be.
use native.Mathlib.Omega.{arith}
use Rattle.cache.specs.Cache.{kept_count}
use Rattle.cache.specs.Keeping.{none_remembered, put_remembered}
use Rattle.cache.proofs.keep.remember.Goals as goal

pub returns-then-kept-ge-MOST_RESULTS : goal.returns-then-kept-ge-MOST_RESULTS
unfolding kept_count
returns-then-kept-ge-MOST_RESULTS c =
    let given = c.args in
    none_remembered given.scratch.now given.root_is_wildcard given.left.0 given.right.0 given.res.0 c.requires.0
    c.requires.1 (omega (arith, c.if-kept-ge-MOST_RESULTS.true))

pub returns : goal.returns
unfolding kept_count
returns c =
    let key = c.merge_key-key in
    let given = c.args in
    rw c.put_result.ensures
    (put_remembered given.scratch.now given.root_is_wildcard given.left.0 given.right.0 given.res.0 c.requires.0
    c.requires.1 key.result key.ensures.0 key.ensures.1 (omega (arith, c.if-kept-ge-MOST_RESULTS.false)))
