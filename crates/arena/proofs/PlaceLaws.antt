-- One entry more of a set that is placed. Nothing here has to be believed.
use Rattle.std.specs.Prelude.{◌≡◌, refl, ℕ}
use Rattle.stacks.specs.Forest.{Forest, over}
use Rattle.arena.specs.Store.{Node, push, Store}
use Rattle.arena.specs.Place.{place_e, place}

-- ---- one entry more

-- an entry ahead of those of a node
abbrev pub ahead : ℕ → ℕ → Node × Store → Node × Store
ahead r p x = (push r p x.0, x.1)

pub place_e_over : (s : Store) (r : ℕ) (b t : Forest) → place_e s (over r b t) ≡ ahead r (place s b).0 (place_e (place s b).1 t)
unfolding place_e place
place_e_over s r b t = refl
