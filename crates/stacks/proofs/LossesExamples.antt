-- Three wildcard merges: nothing lost, a tail lost, a whole side swallowed. Nothing here has to be believed: all are computed.
use Rattle.std.specs.Prelude.{◌≡◌, refl, true}
use Rattle.stacks.specs.Forest.{none, mark, over}
use Rattle.stacks.specs.Merge.{is_mark, wild, merge_e, merge_t}

-- 7 with 8: both. 7 over 42 with 7: the tail 42 goes. 7 over 42 with the empty stack: all of it goes.
pub kept_cut_swallowed :
    (merge_t true (over 7 mark none) (over 8 mark none) ≡ over 7 mark (over 8 mark none))
    × (merge_t true (over 7 (over 42 mark none) none) (over 7 mark none) ≡ over 7 mark none)
    × (merge_t true (over 7 (over 42 mark none) none) mark ≡ mark)
unfolding merge_t wild merge_e is_mark
kept_cut_swallowed = (refl, refl, refl)
