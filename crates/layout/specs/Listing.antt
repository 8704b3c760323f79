-- To believe: a list of entries held in words, its states and its parents by place: the pool and the entry stack both hold such lists.
pub mod Laws
use Rattle.std.specs.Prelude.{true, false, ℕ, zero, suc, eqb}
use Rattle.arena.specs.Store.{Node, end, dollar, push}
use Rattle.layout.specs.Layout.{stop}

-- the k entries from place i on: `$` is the state word `stop`, and ends the list
unfoldable pub listing : (ℕ → ℕ) → (ℕ → ℕ) → ℕ → ℕ → Node
listing st pa i zero = end
listing st pa i (suc k) = elim (eqb (st i) stop) [ true ↦ dollar | false ↦ push (st i) (pa i) (listing st pa (suc i) k) ]
