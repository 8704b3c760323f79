-- The singleton's checks one inside the other, as code goes through them. Nothing here has to be believed.
use Rattle.std.specs.Prelude.{true, false, List, ℕ, eqb, ltb}
use Rattle.arena.specs.Forest.{none, over}
use Rattle.words.specs.Names.{empty_mark}
use Rattle.arena.specs.Store.{tree}
use Rattle.arena.specs.Place.{place}
use Rattle.layout.specs.Layout.{stop}
use Rattle.layout.specs.Decode.{store_of}
use Rattle.store.specs.Calls.{refused, context, Left, kept}
use Rattle.store.specs.Nested.{grown}

-- the empty mark answers 0; then check 5
unfoldable pub if_state : List ℕ → ℕ → Left → Left
if_state w r go =
    elim (eqb r empty_mark) [
      | true ↦ kept (context 0) w
      | false ↦ elim (ltb r stop) [ true ↦ go | false ↦ kept (refused 5) w ]
    ]

-- r on top of each stack of p, placed
unfoldable pub placed_single : List ℕ → ℕ → ℕ → Left
placed_single w p r = grown w (place (store_of w) (over r (tree (store_of w) p) none))
