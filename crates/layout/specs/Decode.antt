-- To believe: the store that words hold.
pub mod Laws
use Rattle.std.specs.Prelude.{List, [], ◌∷◌, ℕ, zero, suc}
use Rattle.arena.specs.Store.{Node, end, dollar, push, Store}
use Rattle.layout.specs.Layout.{count, kind, first, second, parent, state}
use Rattle.layout.specs.Listing.{listing}

-- a record of kind 0 is `$`; of kind 1, with parent a and state b, one entry; of kind 2, its pool entries
unfoldable pub node_from : ℕ → ℕ → ℕ → Node → Node
node_from zero a b es = dollar
node_from (suc zero) a b es = push b a end
node_from (suc (suc k)) a b es = es

-- record c
unfoldable pub node_in : List ℕ → ℕ → Node
node_in w c = node_from (kind w c) (first w c) (second w c) (listing (state w) (parent w) (first w c) (second w c))

-- the first n records, the newest first
unfoldable pub store_in : List ℕ → ℕ → Store
store_in w zero = []
store_in w (suc n) = node_in w n ∷ store_in w n

-- the whole store
abbrev pub store_of : List ℕ → Store
store_of w = store_in w (count w)
