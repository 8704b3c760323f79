-- Every state of a set, of a record, of a store, is below a limit. Nothing here has to be believed.
use Rattle.std.specs.Prelude.{[], ◌∷◌, ℕ, ◌<◌}
use Rattle.stacks.specs.Forest.{Forest, none, mark, over}
use Rattle.arena.specs.Store.{Node, end, dollar, push, Store}

-- every state of the set, of the record, of the store, is below k
abbrev pub Below : ℕ → Forest → Type 0
Below k none = Unit {0}
Below k mark = Unit {0}
Below k (over r b t) = (r < k) × Below k b × Below k t

abbrev pub NodeBelow : ℕ → Node → Type 0
NodeBelow k end = Unit {0}
NodeBelow k dollar = Unit {0}
NodeBelow k (push r p n) = (r < k) × NodeBelow k n

abbrev pub StoreBelow : ℕ → Store → Type 0
StoreBelow k [] = Unit {0}
StoreBelow k (n ∷ s) = NodeBelow k n × StoreBelow k s
