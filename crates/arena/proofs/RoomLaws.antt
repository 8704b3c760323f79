-- The room that a store takes only grows: code that stops at the first overflow is right. Nothing here has to be believed.
use Rattle.std.specs.Prelude.{[], ◌∷◌, ◌++◌, ◌≤◌, length}
use Rattle.std.proofs.Common.{arith}
use Rattle.arena.specs.Store.{Store}
use Rattle.arena.proofs.Placed.{Grew, grew_length}
use Rattle.arena.specs.Room.{pool}

pool_more : (k s : Store) → pool s ≤ pool (k ++ s)
unfolding pool
pool_more [] s = omega arith
pool_more (n ∷ k) s = omega (arith, pool_more k s)

pub pool_grew : (s u : Store) → Grew s u → pool s ≤ pool u
pool_grew s u g = rw g.1 (pool_more g.0 s)

-- more room is taken at the end than on the way, in both
pub room_grew : (s u : Store) → Grew s u → (length s ≤ length u) × (pool s ≤ pool u)
room_grew s u g = (grew_length s u g, pool_grew s u g)
