-- The cycle's measure, twice the sum of the two context numbers and a step; the loop's invariant and measure.
use Rattle.std.proofs.Common.{◌≡◌, ◌+◌, ◌-◌, ◌*◌, ◌≤◌}
use Rattle.arena.specs.Store.{node_at}
use Rattle.arena.specs.Kinds.{size}
use Rattle.index.specs.Decode.{store_of}
use Rattle.interning.specs.Interned.{More}
use Rattle.merging.proofs.Turns.{Go}
use Rattle.merging.proofs.cycle.+merge_merge_entries.Given as goal

abbrev pub decreases-merge : goal.decreases-merge
decreases-merge l = 2 * (l.left.0 + l.right.0) + 1

abbrev pub decreases-merge_entries : goal.decreases-merge_entries
decreases-merge_entries l = 2 * (l.left.0 + l.right.0)

-- left_index and right_index entries are taken, no more than there are, and `made` contexts are made
abbrev pub invariant-merge_entries-loop-left_index : goal.invariant-merge_entries-loop-left_index
invariant-merge_entries-loop-left_index l =
    record {
      go : Go l.root_is_wildcard l.initial.store l.initial.scratch l.left.0 l.right.0 l.top l.store l.scratch l.left_index l.right_index l.n;
      left_within : l.left_index ≤ l.left_len;
      right_within : l.right_index ≤ l.right_len;
      left_size : l.left_len ≡ size (node_at (store_of l.initial.store) l.left.0);
      right_size : l.right_len ≡ size (node_at (store_of l.initial.store) l.right.0);
      more : More l.initial.store l.made l.store;
    }

abbrev pub decreases-merge_entries-loop-left_index : goal.decreases-merge_entries-loop-left_index
decreases-merge_entries-loop-left_index l = (l.left_len - l.left_index) + (l.right_len - l.right_index)
