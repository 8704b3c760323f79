-- What the code that lays out entries relies on, and what it lays out for one of them. Nothing here has to be believed: `entries_line` says
-- what a line of entries is.
pub mod Laws
use Rattle.std.specs.Prelude.{◌≡◌, true, false, List, [], ◌∷◌, ◌++◌, ℕ, ◌+◌, ◌≤◌, eqb, length}
use Rattle.layout.specs.Layout.{store_words, most_contexts, most_entries, stop, parent, state}
use Rattle.layout.specs.Store.{Node}
use Rattle.layout.specs.Listing.{listing}
use Rattle.layout.specs.Listing.Laws.{Entries}
use Rattle.lines.specs.Decimal.{decimal}
use Rattle.lines.specs.Lines.{spaced}

-- an entry, from its two words
unfoldable pub entry_bytes : ℕ → ℕ → List ℕ
entry_bytes r p = elim (eqb r stop) [ true ↦ 32 ∷ 36 ∷ [] | false ↦ spaced r ++ 62 ∷ decimal p ]

-- n entries of the pool, from place `from` on
abbrev pub pool_node : List ℕ → ℕ → ℕ → Node
pool_node w from n = listing (state w) (parent w) from n

-- they are sound
pub record PoolAt (w : List ℕ) (from n : ℕ) : Type 0 where
  pub sized : length w ≡ store_words
  pub within : from + n ≤ most_entries
  pub entries : Entries (state w) (parent w) from n most_contexts
