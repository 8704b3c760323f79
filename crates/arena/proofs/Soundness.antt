-- What a sound store is: states rise, parents are older, no two records are the same. Nothing here has to be believed: `sound` decides it.
use Rattle.std.specs.Prelude.{◌≡◌, [], ◌∷◌, ℕ, suc, ◌<◌, ◌≤◌, length}
use Rattle.arena.specs.Store.{Node, end, dollar, push, Store, nowhere, find}

-- the states rise strictly from `lo` on, and each parent's number is below c
abbrev pub Rise : ℕ → ℕ → Node → Type 0
Rise lo c end = Unit {0}
Rise lo c dollar = Unit {0}
Rise lo c (push r p n) = (lo ≤ r) × (p < c) × Rise (suc r) c n

-- there is an entry
abbrev pub Full : Node → Type 0
Full end = ⊥
Full dollar = Unit {0}
Full (push r p n) = Unit {0}

-- each record has an entry, its states rise, its parents are older, and no older record is the same
abbrev pub Sound : Store → Type 0
Sound [] = Unit {0}
Sound (n ∷ s) = Rise 0 (length s) n × Full n × (find n s ≡ nowhere) × Sound s
