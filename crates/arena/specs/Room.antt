-- To believe: the room that a store takes in the pool.
use Rattle.std.specs.Prelude.{[], ◌∷◌, ℕ, ◌+◌}
use Rattle.arena.specs.Store.{Node, end, dollar, push, Store}
use Rattle.arena.specs.Kinds.{size}

-- the pool entries of a record: all entries of an array, none of any other
unfoldable pub room : Node → ℕ
room end = 0
room dollar = 0
room (push r p end) = 0
room (push r p dollar) = size (push r p dollar)
room (push r p (push q o n)) = size (push r p (push q o n))

-- the pool entries in use
unfoldable pub pool : Store → ℕ
pool [] = 0
pool (n ∷ s) = pool s + room n
