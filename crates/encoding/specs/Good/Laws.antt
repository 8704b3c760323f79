-- A store that words can hold grows by a record. Nothing here has to be believed.
use Rattle.std.specs.Prelude.{◌≡◌, refl, [], ◌∷◌, length}
use Rattle.std.proofs.Common.{arith}
use Rattle.arena.specs.Store.{Node, dollar, Store, nowhere, find}
use Rattle.arena.proofs.Soundness.{Rise, Full}
use Rattle.arena.specs.Room.{room, pool}
use Rattle.arena.proofs.Below.{NodeBelow}
use Rattle.layout.specs.Layout.{stop}
use Rattle.layout.specs.Encode.{written, words_of}
use Rattle.layout.specs.Ceilings.{Fits}
use Rattle.encoding.specs.Good.{GoodStore}

-- context 0 alone
pub fresh_good : GoodStore (dollar ∷ [])
unfolding find pool room
fresh_good = record { sound = (tt, tt, refl, tt); below = (tt, tt); some = omega arith; fits = omega arith }

-- a new record whose states rise from 0 on over known parents, if there is room for it
pub good_more : (s : Store) (n : Node) → GoodStore s → Rise 0 (length s) n → Full n → NodeBelow stop n → find n s ≡ nowhere → Fits (n ∷ s)
    → GoodStore (n ∷ s)
good_more s n g rise full below new fits = record { sound = (rise, full, new, g.sound); below = (below, g.below); some = omega arith; fits = fits }

pub words_grown : (s : Store) (n : Node) → words_of (n ∷ s) ≡ written (words_of s) s n
unfolding words_of
words_grown s n = refl
