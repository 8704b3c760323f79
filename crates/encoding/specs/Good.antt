-- The stores that words can hold. Nothing here has to be believed: `sound` decides it.
pub mod Laws
use Rattle.std.specs.Prelude.{◌<◌, length}
use Rattle.arena.specs.Store.{Store}
use Rattle.arena.proofs.Soundness.{Sound}
use Rattle.arena.proofs.Below.{StoreBelow}
use Rattle.layout.specs.Layout.{stop}
use Rattle.layout.specs.Ceilings.{Fits}

-- a store that words can hold
pub record GoodStore (s : Store) : Type 0 where
  pub sound : Sound s
  pub below : StoreBelow stop s
  pub some : 0 < length s
  pub fits : Fits s
