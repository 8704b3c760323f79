-- The ceilings as a statement. Nothing here has to be believed.
use Rattle.std.specs.Prelude.{◌≤◌, length}
use Rattle.arena.specs.Store.{Store}
use Rattle.arena.specs.Room.{pool}
use Rattle.layout.specs.Layout.{most_contexts, most_entries}

-- the store is within the ceilings
abbrev pub Fits : Store → Type 0
Fits s = (length s ≤ most_contexts) × (pool s ≤ most_entries)
