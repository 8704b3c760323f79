-- The count is read, compared and written.
use mathlib.Core.Path.{refl, ap}
use native.Mathlib.Omega.{arith}
use native.Mathlib.Numerals.{add-one}
use lib.ListN.{get_or, set}
use Rattle.cache.specs.Cache.{merges_counted}
use Rattle.cache.proofs.count.count_merge.Goals as goal

pub returns-then-counted-lt-MOST_MERGES : goal.returns-then-counted-lt-MOST_MERGES
unfolding merges_counted
returns-then-counted-lt-MOST_MERGES c =
    let z = c.args.scratch.now in
    (omega (arith, c.if-counted-lt-MOST_MERGES.true), ap (set z 16337) (add-one (get_or z 16337 0)))

pub returns : goal.returns
unfolding merges_counted
returns c = (omega (arith, c.if-counted-lt-MOST_MERGES.false), refl)
