-- The needs of the two members: those of `merge` are lemmas of specs/Beginning, those of `merge_entries` of specs/Turns; the right side's are
-- the left's with the sides exchanged.
use native.Mathlib.Omega.{arith}
use Rattle.std.proofs.lemmas.Result.{err_from_is_err_and}
use Rattle.merging.specs.Standing.{state_of}
use Rattle.merging.proofs.Beginning.{asked, equal_sides, hit, too_much_lem, counted_apart, swallowed, merged_few, remembered, refused_inside}
use Rattle.entries.specs.Rest.{live_known}
use Rattle.merging.proofs.Walking.{exchanged}
use Rattle.merging.proofs.Turns.{heads_at, heads_exchanged, sides_exchanged, go_start, left_known, left_is, right_there, rest_left, left_ended, slot, take_lower, parents_fall, inner, take_equal, inner_refused, walked_even}
use Rattle.merging.proofs.cycle.+merge_merge_entries.Goals as goal

pub merge-returns-then-left-right : goal.merge-returns-then-left-right
merge-returns-then-left-right t c =
    let if1 = c.if-left-right in
    let pre = c.requires in
    let args = c.args in
    rw c.found.ensures (equal_sides pre args.root_is_wildcard if1.true, omega arith)

pub merge-returns-in-Some : goal.merge-returns-in-Some
merge-returns-in-Some t c =
    let cached = c.cached-known in
    let if1 = c.if-left-right in
    let pre = c.requires in
    let args = c.args in
    rw c.found-in-Some.ensures (hit pre if1.false args.root_is_wildcard cached.result cached.ensures c.in-Some.context c.in-Some.is, omega arith)

pub merge-returns-then-not-count_merge : goal.merge-returns-then-not-count_merge
merge-returns-then-not-count_merge t c =
    let if2 = c.if-not-count_merge in
    let count-merge = c.count_merge in
    let cached = c.cached-known in
    let if1 = c.if-left-right in
    let pre = c.requires in
    let args = c.args in
    too_much_lem pre if1.false args.root_is_wildcard cached.result cached.ensures c.in_default.is count-merge.new.scratch
    (rw (if2.true) at count-merge.ensures)

pub merge-remember-requires : goal.merge-remember-requires
merge-remember-requires t c =
    let count-merge = c.count_merge in
    let cached = c.cached-known in
    let if1 = c.if-left-right in
    let pre = c.requires in
    let args = c.args in
    let apart = counted_apart pre if1.false args.root_is_wildcard cached.result cached.ensures c.in_default.is
    count-merge.new.scratch (rw c.if-not-count_merge.false at c.count_merge.ensures) in
    (asked apart.sides, omega arith)

pub merge-returns-then-swallows : goal.merge-returns-then-swallows
merge-returns-then-swallows t c =
    let remember = c.remember in
    let if3 = c.if-swallows in
    let swallows = c.swallows in
    let count-merge = c.count_merge in
    let cached = c.cached-known in
    let if1 = c.if-left-right in
    let pre = c.requires in
    let args = c.args in
    rw c.found-then-swallows.ensures (
      swallowed pre if1.false args.root_is_wildcard cached.result cached.ensures c.in_default.is
          count-merge.new.scratch (rw c.if-not-count_merge.false at c.count_merge.ensures) (rw if3.true at swallows.ensures) remember.new.scratch remember.ensures,
      omega arith,
    )

pub merge-merge_entries-requires : goal.merge-merge_entries-requires
merge-merge_entries-requires t c =
    let count-merge = c.count_merge in
    let cached = c.cached-known in
    let if1 = c.if-left-right in
    let pre = c.requires in
    let args = c.args in (
      omega (arith, c.decreases),
      counted_apart pre if1.false args.root_is_wildcard cached.result cached.ensures c.in_default.is
          count-merge.new.scratch (rw c.if-not-count_merge.false at c.count_merge.ensures),
    )

pub merge-returns-in_err-merged : goal.merge-returns-in_err-merged
merge-returns-in_err-merged t c =
    let merge-entries = c.merge_entries in
    let cached = c.cached-known in
    let p = err_from_is_err_and c.from_residual.result c.from_residual.ensures.1 in
    rw (p.1, p.2)
    (refused_inside c.requires c.if-left-right.false c.args.root_is_wildcard cached.result cached.ensures c.in_default.is
    c.count_merge.new.scratch (rw c.if-not-count_merge.false at c.count_merge.ensures) (rw c.if-swallows.false at c.swallows.ensures) _
    merge-entries.new.store merge-entries.new.scratch (rw c.in_err-merged.was at merge-entries.ensures))

pub merge-remember-requires-2 : goal.merge-remember-requires-2
merge-remember-requires-2 t c =
    let merge-entries = c.merge_entries in
    let ended = rw c.in_ok-merged.was at merge-entries.ensures in
    let if3 = c.if-swallows in
    let swallows = c.swallows in
    let count-merge = c.count_merge in
    let cached = c.cached-known in
    let if1 = c.if-left-right in
    let pre = c.requires in
    let args = c.args in
    let few = merged_few pre if1.false args.root_is_wildcard cached.result cached.ensures c.in_default.is
    count-merge.new.scratch (rw c.if-not-count_merge.false at c.count_merge.ensures) (rw if3.false at swallows.ensures) c.in_ok-merged.merged.context.0
    merge-entries.new.store merge-entries.new.scratch ended.0 in
    let sides = asked pre in (
      record { sized = ended.0.live.index.sized; sound = ended.0.cache; left = sides.left; right = sides.right },
      few,
    )

pub merge-returns : goal.merge-returns
merge-returns t c =
    let remember2 = c.remember-2 in
    let merge-entries = c.merge_entries in
    let ended = rw c.in_ok-merged.was at merge-entries.ensures in
    let if3 = c.if-swallows in
    let swallows = c.swallows in
    let count-merge = c.count_merge in
    let cached = c.cached-known in
    let if1 = c.if-left-right in
    let pre = c.requires in
    let args = c.args in (
      remembered pre if1.false args.root_is_wildcard cached.result cached.ensures c.in_default.is
          count-merge.new.scratch (rw c.if-not-count_merge.false at c.count_merge.ensures) (rw if3.false at swallows.ensures) c.in_ok-merged.merged.context.0
          merge-entries.new.store merge-entries.new.scratch ended.0 remember2.new.scratch remember2.ensures,
      ended.1,
    )

pub merge_entries-entry_count-left_len-requires : goal.merge_entries-entry_count-left_len-requires
merge_entries-entry_count-left_len-requires t c =
    let pre = c.requires in
    let args = c.args in
    let v = pre.sides in
    live_known v.live args.left.0 v.left

pub merge_entries-entry_count-right_len-requires : goal.merge_entries-entry_count-right_len-requires
merge_entries-entry_count-right_len-requires t c =
    let pre = c.requires in
    let args = c.args in
    let v = pre.sides in
    live_known v.live args.right.0 v.right

pub merge_entries-loop-left_index-init : goal.merge_entries-loop-left_index-init
merge_entries-loop-left_index-init t c =
    let entry-count2 = c.entry_count-right_len in
    let entry-count = c.entry_count-left_len in
    let pre = c.requires in
    let args = c.args in
    record {
      go = go_start pre args.root_is_wildcard;
      left_within = omega arith;
      right_within = omega arith;
      left_size = entry-count.ensures;
      right_size = entry-count2.ensures;
      more = omega arith;
    }

pub merge_entries-intern_with_rest-requires : goal.merge_entries-intern_with_rest-requires
merge_entries-intern_with_rest-requires t c =
    let if1 = c.if-right_len-right_index in
    let loop = c.loop-left_index in
    let pre = c.requires in (
      rest_left pre loop.invariant.go (omega (arith, loop.invariant.left_within)) (omega (arith, loop.invariant.right_within, if1.true)) (omega (arith, loop.invariant.right_within)),
      right_there pre loop.invariant.go,
    )

pub merge_entries-returns-in_err-ended : goal.merge_entries-returns-in_err-ended
merge_entries-returns-in_err-ended t c =
    let rest = c.intern_with_rest in
    let loop = c.loop-left_index in
    let p = err_from_is_err_and c.from_residual.result c.from_residual.ensures.1 in
    let done = left_ended c.requires loop.invariant.go (omega (arith, loop.invariant.left_within)) (omega (arith, loop.invariant.right_within, c.if-right_len-right_index.true))
    (omega (arith, loop.invariant.right_within)) loop.made loop.invariant.more rest.result rest.new.store rest.new.scratch rest.ensures in
    rw (p.1, p.2) (rw c.in_err-ended.was at done)

pub merge_entries-returns-then-right_len-right_index : goal.merge_entries-returns-then-right_len-right_index
merge_entries-returns-then-right_len-right_index t c =
    let rest = c.intern_with_rest in
    let loop = c.loop-left_index in
    let done = left_ended c.requires loop.invariant.go (omega (arith, loop.invariant.left_within)) (omega (arith, loop.invariant.right_within, c.if-right_len-right_index.true))
    (omega (arith, loop.invariant.right_within)) loop.made loop.invariant.more rest.result rest.new.store rest.new.scratch rest.ensures in
    rw c.after.ensures (rw c.in_ok-ended.was at done)

pub merge_entries-entry-left_entry-requires : goal.merge_entries-entry-left_entry-requires
merge_entries-entry-left_entry-requires t c =
    let loop-test = c.loop-left_index-test in
    let loop = c.loop-left_index in
    let pre = c.requires in
    (left_known pre loop.invariant.go, rw (left_is pre loop.invariant.go) (omega (arith, loop.invariant.left_size, loop-test.true)))

pub merge_entries-entry-right_entry-requires : goal.merge_entries-entry-right_entry-requires
merge_entries-entry-right_entry-requires t c =
    let if1 = c.if-right_len-right_index in
    let loop = c.loop-left_index in
    let pre = c.requires in (
      left_known (sides_exchanged pre) (exchanged loop.invariant.go),
      rw (left_is (sides_exchanged pre) (exchanged loop.invariant.go)) (omega (arith, loop.invariant.right_size, if1.false)),
    )

pub merge_entries-overflow_add-top : goal.merge_entries-overflow_add-top
merge_entries-overflow_add-top t c =
    let heads = heads_at c.requires c.loop-left_index.invariant.go c.loop-left_index.invariant.left_size c.loop-left_index.invariant.right_size
    c.loop-left_index-test.true c.if-right_len-right_index.false c.entry-left_entry.ensures c.entry-right_entry.ensures in
    let loop = c.loop-left_index in
    let pre = c.requires in
    omega (arith, slot pre loop.invariant.go heads)

pub merge_entries-put_entry-requires : goal.merge_entries-put_entry-requires
merge_entries-put_entry-requires t c =
    let heads = heads_at c.requires c.loop-left_index.invariant.go c.loop-left_index.invariant.left_size c.loop-left_index.invariant.right_size
    c.loop-left_index-test.true c.if-right_len-right_index.false c.entry-left_entry.ensures c.entry-right_entry.ensures in
    let loop = c.loop-left_index in
    let pre = c.requires in
    slot pre loop.invariant.go heads

pub merge_entries-overflow_add-n : goal.merge_entries-overflow_add-n
merge_entries-overflow_add-n t c =
    let heads = heads_at c.requires c.loop-left_index.invariant.go c.loop-left_index.invariant.left_size c.loop-left_index.invariant.right_size
    c.loop-left_index-test.true c.if-right_len-right_index.false c.entry-left_entry.ensures c.entry-right_entry.ensures in
    let loop = c.loop-left_index in
    let pre = c.requires in
    omega (arith, slot pre loop.invariant.go heads)

pub merge_entries-loop-left_index-preserved-then-left_entry-right_entry : goal.merge_entries-loop-left_index-preserved-then-left_entry-right_entry
merge_entries-loop-left_index-preserved-then-left_entry-right_entry t c =
    let heads = heads_at c.requires c.loop-left_index.invariant.go c.loop-left_index.invariant.left_size c.loop-left_index.invariant.right_size
    c.loop-left_index-test.true c.if-right_len-right_index.false c.entry-left_entry.ensures c.entry-right_entry.ensures in
    let put-entry = c.put_entry in
    let if2 = c.if-left_entry-right_entry in
    let loop-test = c.loop-left_index-test in
    let loop = c.loop-left_index in
    let pre = c.requires in
    record {
      go = take_lower pre loop.invariant.go heads if2.true put-entry.new.scratch put-entry.ensures;
      left_within = omega (arith, loop-test.true);
      right_within = loop.invariant.right_within;
      left_size = loop.invariant.left_size;
      right_size = loop.invariant.right_size;
      more = loop.invariant.more;
    }

pub merge_entries-overflow_add-top-then-right_entry-left_entry : goal.merge_entries-overflow_add-top-then-right_entry-left_entry
merge_entries-overflow_add-top-then-right_entry-left_entry t c =
    let heads = heads_at c.requires c.loop-left_index.invariant.go c.loop-left_index.invariant.left_size c.loop-left_index.invariant.right_size
    c.loop-left_index-test.true c.if-right_len-right_index.false c.entry-left_entry.ensures c.entry-right_entry.ensures in
    let loop = c.loop-left_index in
    let pre = c.requires in
    omega (arith, slot pre loop.invariant.go heads)

pub merge_entries-put_entry-requires-then-right_entry-left_entry : goal.merge_entries-put_entry-requires-then-right_entry-left_entry
merge_entries-put_entry-requires-then-right_entry-left_entry t c =
    let heads = heads_at c.requires c.loop-left_index.invariant.go c.loop-left_index.invariant.left_size c.loop-left_index.invariant.right_size
    c.loop-left_index-test.true c.if-right_len-right_index.false c.entry-left_entry.ensures c.entry-right_entry.ensures in
    let loop = c.loop-left_index in
    let pre = c.requires in
    slot pre loop.invariant.go heads

pub merge_entries-overflow_add-n-then-right_entry-left_entry : goal.merge_entries-overflow_add-n-then-right_entry-left_entry
merge_entries-overflow_add-n-then-right_entry-left_entry t c =
    let heads = heads_at c.requires c.loop-left_index.invariant.go c.loop-left_index.invariant.left_size c.loop-left_index.invariant.right_size
    c.loop-left_index-test.true c.if-right_len-right_index.false c.entry-left_entry.ensures c.entry-right_entry.ensures in
    let loop = c.loop-left_index in
    let pre = c.requires in
    omega (arith, slot pre loop.invariant.go heads)

pub merge_entries-loop-left_index-preserved-then-right_entry-left_entry : goal.merge_entries-loop-left_index-preserved-then-right_entry-left_entry
merge_entries-loop-left_index-preserved-then-right_entry-left_entry t c =
    let heads = heads_at c.requires c.loop-left_index.invariant.go c.loop-left_index.invariant.left_size c.loop-left_index.invariant.right_size
    c.loop-left_index-test.true c.if-right_len-right_index.false c.entry-left_entry.ensures c.entry-right_entry.ensures in
    let put-entry2 = c.put_entry-then-right_entry-left_entry in
    let if3 = c.if-right_entry-left_entry in
    let if1 = c.if-right_len-right_index in
    let loop = c.loop-left_index in
    let pre = c.requires in
    record {
      go = exchanged (take_lower (sides_exchanged pre) (exchanged loop.invariant.go) (heads_exchanged heads) if3.true put-entry2.new.scratch put-entry2.ensures);
      left_within = loop.invariant.left_within;
      right_within = omega (arith, if1.false);
      left_size = loop.invariant.left_size;
      right_size = loop.invariant.right_size;
      more = loop.invariant.more;
    }

pub merge_entries-overflow_add-top-in-loop-left_index : goal.merge_entries-overflow_add-top-in-loop-left_index
merge_entries-overflow_add-top-in-loop-left_index t c =
    let heads = heads_at c.requires c.loop-left_index.invariant.go c.loop-left_index.invariant.left_size c.loop-left_index.invariant.right_size
    c.loop-left_index-test.true c.if-right_len-right_index.false c.entry-left_entry.ensures c.entry-right_entry.ensures in
    let loop = c.loop-left_index in
    let pre = c.requires in
    omega (arith, slot pre loop.invariant.go heads)

pub merge_entries-merge-requires : goal.merge_entries-merge-requires
merge_entries-merge-requires t c =
    let heads = heads_at c.requires c.loop-left_index.invariant.go c.loop-left_index.invariant.left_size c.loop-left_index.invariant.right_size
    c.loop-left_index-test.true c.if-right_len-right_index.false c.entry-left_entry.ensures c.entry-right_entry.ensures in
    let loop = c.loop-left_index in
    let pre = c.requires in (
      omega (arith, c.decreases, parents_fall pre loop.invariant.go heads),
      inner pre loop.invariant.go heads,
    )

pub merge_entries-returns-in_err-beneath : goal.merge_entries-returns-in_err-beneath
merge_entries-returns-in_err-beneath t c =
    let heads = heads_at c.requires c.loop-left_index.invariant.go c.loop-left_index.invariant.left_size c.loop-left_index.invariant.right_size
    c.loop-left_index-test.true c.if-right_len-right_index.false c.entry-left_entry.ensures c.entry-right_entry.ensures in
    let p = err_from_is_err_and c.from_residual-in_err-beneath.result c.from_residual-in_err-beneath.ensures.1 in
    rw (p.1, p.2)
    (inner_refused c.requires c.loop-left_index.invariant.go heads (omega (arith, c.if-left_entry-right_entry.false, c.if-right_entry-left_entry.false)) _
    c.merge.new.store c.merge.new.scratch (rw c.in_err-beneath.was at c.merge.ensures))

pub merge_entries-overflow_add-top-in-loop-left_index-2 : goal.merge_entries-overflow_add-top-in-loop-left_index-2
merge_entries-overflow_add-top-in-loop-left_index-2 t c =
    let heads = heads_at c.requires c.loop-left_index.invariant.go c.loop-left_index.invariant.left_size c.loop-left_index.invariant.right_size
    c.loop-left_index-test.true c.if-right_len-right_index.false c.entry-left_entry.ensures c.entry-right_entry.ensures in
    let loop = c.loop-left_index in
    let pre = c.requires in
    omega (arith, slot pre loop.invariant.go heads)

pub merge_entries-put_entry-requires-in-loop-left_index : goal.merge_entries-put_entry-requires-in-loop-left_index
merge_entries-put_entry-requires-in-loop-left_index t c =
    let heads = heads_at c.requires c.loop-left_index.invariant.go c.loop-left_index.invariant.left_size c.loop-left_index.invariant.right_size
    c.loop-left_index-test.true c.if-right_len-right_index.false c.entry-left_entry.ensures c.entry-right_entry.ensures in
    let loop = c.loop-left_index in
    let pre = c.requires in
    slot pre loop.invariant.go heads

pub merge_entries-overflow_add-n-in-loop-left_index : goal.merge_entries-overflow_add-n-in-loop-left_index
merge_entries-overflow_add-n-in-loop-left_index t c =
    let heads = heads_at c.requires c.loop-left_index.invariant.go c.loop-left_index.invariant.left_size c.loop-left_index.invariant.right_size
    c.loop-left_index-test.true c.if-right_len-right_index.false c.entry-left_entry.ensures c.entry-right_entry.ensures in
    let loop = c.loop-left_index in
    let pre = c.requires in
    omega (arith, slot pre loop.invariant.go heads)

pub merge_entries-loop-left_index-preserved : goal.merge_entries-loop-left_index-preserved
merge_entries-loop-left_index-preserved t c =
    let heads = heads_at c.requires c.loop-left_index.invariant.go c.loop-left_index.invariant.left_size c.loop-left_index.invariant.right_size
    c.loop-left_index-test.true c.if-right_len-right_index.false c.entry-left_entry.ensures c.entry-right_entry.ensures in
    let put-entry3 = c.put_entry-in-loop-left_index in
    let merge = c.merge in
    let if1 = c.if-right_len-right_index in
    let loop-test = c.loop-left_index-test in
    let loop = c.loop-left_index in
    let pre = c.requires in
    record {
      go = take_equal pre loop.invariant.go heads (omega (arith, c.if-left_entry-right_entry.false, c.if-right_entry-left_entry.false)) c.in_ok-beneath.beneath.context.0
          merge.new.store merge.new.scratch (rw c.in_ok-beneath.was at merge.ensures).0 put-entry3.new.scratch put-entry3.ensures;
      left_within = omega (arith, loop-test.true);
      right_within = omega (arith, if1.false);
      left_size = loop.invariant.left_size;
      right_size = loop.invariant.right_size;
      more = omega (arith, loop.invariant.more, (rw c.in_ok-beneath.was at merge.ensures).1);
    }

pub merge_entries-intern_with_rest-requires-2 : goal.merge_entries-intern_with_rest-requires-2
merge_entries-intern_with_rest-requires-2 t c =
    let loop-test = c.loop-left_index-test in
    let loop = c.loop-left_index in
    let pre = c.requires in
    let turned = sides_exchanged pre in (
      rest_left turned (exchanged loop.invariant.go) (omega (arith, loop.invariant.right_within)) (omega (arith, loop.invariant.left_within, loop-test.false)) (omega (arith, loop.invariant.left_within)),
      right_there turned (exchanged loop.invariant.go),
    )

pub merge_entries-returns-in_err-ended-2 : goal.merge_entries-returns-in_err-ended-2
merge_entries-returns-in_err-ended-2 t c =
    let rest = c.intern_with_rest-2 in
    let loop = c.loop-left_index in
    let p = err_from_is_err_and c.from_residual-in_err-ended-2.result c.from_residual-in_err-ended-2.ensures.1 in
    let done = left_ended (sides_exchanged c.requires) (exchanged loop.invariant.go) (omega (arith, loop.invariant.right_within))
    (omega (arith, loop.invariant.left_within, c.loop-left_index-test.false)) (omega (arith, loop.invariant.left_within)) loop.made loop.invariant.more
    rest.result rest.new.store rest.new.scratch rest.ensures in
    rw (p.1, p.2, walked_even c.args.root_is_wildcard (state_of c.args.store.now c.args.scratch.now) c.args.left.0 c.args.right.0)
    (rw c.in_err-ended-2.was at done)

pub merge_entries-returns : goal.merge_entries-returns
merge_entries-returns t c =
    let rest = c.intern_with_rest-2 in
    let loop = c.loop-left_index in
    let done = left_ended (sides_exchanged c.requires) (exchanged loop.invariant.go) (omega (arith, loop.invariant.right_within))
    (omega (arith, loop.invariant.left_within, c.loop-left_index-test.false)) (omega (arith, loop.invariant.left_within)) loop.made loop.invariant.more
    rest.result rest.new.store rest.new.scratch rest.ensures in
    rw (c.after-2.ensures, walked_even c.args.root_is_wildcard (state_of c.args.store.now c.args.scratch.now) c.args.left.0 c.args.right.0)
    (rw c.in_ok-ended-2.was at done)
