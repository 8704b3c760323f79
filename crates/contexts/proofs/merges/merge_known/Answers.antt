-- The cycle begins with an empty cache and stack; a refused merge cuts the store back to what it was.
use native.Mathlib.Omega.{arith}
use Rattle.interning.specs.Live.{live_sound}
use Rattle.contexts.specs.MergeCall.Laws.{begin, merge_made, merge_refused}
use Rattle.contexts.proofs.merges.merge_known.Goals as goal

pub merge-outcome-requires : goal.merge-outcome-requires
merge-outcome-requires c =
    let clear-cache = c.clear_cache in
    let pre = c.requires in
    let args = c.args in
    begin args.root_is_wildcard args.store.now args.scratch.now args.left.0 args.right.0 pre.0 pre.1 pre.2
    clear-cache.new.scratch clear-cache.ensures

pub cut_back-requires : goal.cut_back-requires
cut_back-requires c =
    let sound = live_sound c.requires.0 in
    (omega (arith, c.count_of-count.ensures, sound.counted.1), omega (arith, c.used_of-used.ensures, sound.counted.2))

pub returns-in-Ok : goal.returns-in-Ok
returns-in-Ok c =
    let clear = c.clear in
    let merges-counted = c.merges_counted-merges in
    let merge = c.merge-outcome in
    let clear-cache = c.clear_cache in
    let pre = c.requires in
    let args = c.args in
    let is_merged = rw c.in-Ok.is at merge.ensures in
    merge_made args.root_is_wildcard args.store.now args.scratch.now args.left.0 args.right.0 pre.0 pre.1 pre.2
    clear-cache.new.scratch clear-cache.ensures c.in-Ok.merged.context.0 merge.new.store merge.new.scratch
    is_merged.0 merges-counted.result c.in-Ok.merged.made merges-counted.ensures is_merged.1 clear.new.words clear.ensures

pub returns-in-Err : goal.returns-in-Err
returns-in-Err c =
    let clear2 = c.clear-in-Err in
    let cut_back = c.cut_back in
    let merge = c.merge-outcome in
    let clear-cache = c.clear_cache in
    let used-of = c.used_of-used in
    let count_of = c.count_of-count in
    let pre = c.requires in
    let args = c.args in
    let stuck = rw c.in-Err.is at merge.ensures in
    merge_refused args.root_is_wildcard args.store.now args.scratch.now args.left.0 args.right.0 pre.0 pre.1 pre.2
    clear-cache.new.scratch clear-cache.ensures c.in-Err.refusal merge.new.store merge.new.scratch stuck.0 stuck.1
    count_of.result used-of.result count_of.ensures used-of.ensures cut_back.new.store clear2.new.words
    cut_back.ensures clear2.ensures
