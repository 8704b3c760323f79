-- To believe: a set of stacks placed in a store: what stands beneath first, in rising order of the top state, each part found or appended.
use Rattle.std.specs.Prelude.{Bool, ◌∷◌, ℕ, length}
use Rattle.stacks.specs.Forest.{Forest, none, mark, over}
use Rattle.stacks.specs.Merge.{merge_t}
use Rattle.arena.specs.Store.{Node, end, dollar, push, Store, at, nowhere, find, tree}

-- a list of no entries is interned as `$` alone is
unfoldable pub listed : Node → Node
listed end = dollar
listed dollar = dollar
listed (push r p n) = push r p n

-- the number of a list of entries, which takes the next number where no record is the same
unfoldable pub intern : Store → Node → ℕ × Store
intern s n = elim (find (listed n) s) [ at c ↦ (c, s) | nowhere ↦ (length s, listed n ∷ s) ]

-- the entries of a set, with what stands beneath each top state placed in rising order
unfoldable pub place_e : Store → Forest → Node × Store
place_e s none = (end, s)
place_e s mark = (dollar, s)
place_e s (over r b t) =
    let B = place_e s b in
    let P = intern B.1 B.0 in
    let T = place_e P.1 t in
    (push r P.0 T.0, T.1)

-- the number of a set, and the store that has it
unfoldable pub place : Store → Forest → ℕ × Store
place s F = let B = place_e s F in intern B.1 B.0

-- the merge of two contexts: the merge of their sets, placed
unfoldable pub merge_s : Bool → Store → ℕ → ℕ → ℕ × Store
merge_s m s a b = place s (merge_t m (tree s a) (tree s b))
