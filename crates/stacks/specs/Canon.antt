-- The canonical form of a set of stacks: two sets are equal exactly if their canonical forms are (`ext`). Nothing here has to be believed.
use Rattle.std.specs.Prelude.{ℕ, suc, ◌≤◌}
use Rattle.stacks.specs.Forest.{Forest, none, mark, over}

-- there is a stack in the set
abbrev pub Some : Forest → Type 0
Some none = ⊥
Some mark = Unit {0}
Some (over r b t) = Unit {0}

-- the top states rise strictly from `lo` on, and beneath each stands a set with a stack, in canonical form too
abbrev pub From : ℕ → Forest → Type 0
From lo none = Unit {0}
From lo mark = Unit {0}
From lo (over r b t) = (lo ≤ r) × Some b × From 0 b × From (suc r) t

abbrev pub Canon : Forest → Type 0
Canon F = From 0 F
