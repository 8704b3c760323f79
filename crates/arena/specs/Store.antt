-- To believe: a store of contexts: a list of records, the newest first. A context's number is how many are older.
use Rattle.std.specs.Prelude.{Bool, true, false, ◌&&◌, List, [], ◌∷◌, ℕ, eqb, length}
use Rattle.stacks.specs.Forest.{Forest, none, mark, over}

-- A record's entries: `end`, no more; `dollar`, the empty stack, and no more; `push r p n`, the state r over the context p, and those of n.
pub data Node : Type 0 where
  end : Node
  dollar : Node
  push : ℕ → ℕ → Node → Node

abbrev pub Store : Type 0
Store = List Node

-- ---- what a context stands for

-- an entry stands for its state on top of each stack of its parent, `dollar` for the empty stack, and a record for the union over its entries
unfoldable pub tree_of : (ℕ → Forest) → Node → Forest
tree_of f end = none
tree_of f dollar = mark
tree_of f (push r p n) = over r (f p) (tree_of f n)

-- the set of stacks that the context c of a store stands for
unfoldable pub tree : Store → ℕ → Forest
tree [] c = none
tree (n ∷ s) c = elim (eqb c (length s)) [ true ↦ tree_of (tree s) n | false ↦ tree s c ]

-- the record of the context c
unfoldable pub node_at : Store → ℕ → Node
node_at [] c = end
node_at (n ∷ s) c = elim (eqb c (length s)) [ true ↦ n | false ↦ node_at s c ]

-- ---- equal records, and where a record is

-- the same entries, field by field
unfoldable pub same : Node → Node → Bool
same end end = true
same end dollar = false
same end (push s q k) = false
same dollar end = false
same dollar dollar = true
same dollar (push s q k) = false
same (push r p n) end = false
same (push r p n) dollar = false
same (push r p n) (push s q k) = eqb r s && (eqb p q && same n k)

pub data Found : Type 0 where
  at : ℕ → Found
  nowhere : Found

unfoldable pub find : Node → Store → Found
find n [] = nowhere
find n (x ∷ s) = elim (same n x) [ true ↦ at (length s) | false ↦ find n s ]
