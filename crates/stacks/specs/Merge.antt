-- To believe: the two merges of sets of stacks, as one definition over the mode: `false` is full-context, `true` is by wildcard.
use Rattle.std.specs.Prelude.{Bool, true, false, ◌&&◌, ◌||◌, ltb}
use Rattle.stacks.specs.Forest.{Forest, none, mark, over}

-- exactly the set of the empty stack
unfoldable pub is_mark : Forest → Bool
is_mark none = false
is_mark mark = true
is_mark (over r b t) = false

-- by wildcard a side that is exactly the set of the empty stack swallows the other; else C
unfoldable pub wild : Bool → Forest → Forest → Forest → Forest
wild m A B C = elim (m && (is_mark A || is_mark B)) [ true ↦ mark | false ↦ C ]

-- the entries in rising order of the top state; beneath a state on both sides stands the merge of what stood beneath
unfoldable pub merge_e : Bool → Forest → Forest → Forest
merge_e m none B = B
merge_e m mark none = mark
merge_e m mark mark = mark
merge_e m mark (over s c u) = over s c (merge_e m mark u)
merge_e m (over r b t) none = over r b t
merge_e m (over r b t) mark = over r b (merge_e m t mark)
merge_e m (over r b t) (over s c u) =
    elim (ltb r s) [
      | true ↦ over r b (merge_e m t (over s c u))
      | false ↦ elim (ltb s r) [
        | true ↦ over s c (merge_e m (over r b t) u)
        | false ↦ over r (wild m b c (merge_e m b c)) (merge_e m t u)
      ]
    ]

-- the merge of two sets
unfoldable pub merge_t : Bool → Forest → Forest → Forest
merge_t m A B = wild m A B (merge_e m A B)
