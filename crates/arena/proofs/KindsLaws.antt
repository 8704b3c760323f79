-- Lists of entries by their size: which context each is interned as, and which have entries in the pool. Nothing here has to be believed.
use Rattle.std.specs.Prelude.{◌≡◌, refl, ◌<◌, ◌≤◌, length}
use Rattle.std.proofs.Common.{arith}
use Rattle.arena.specs.Store.{Node, end, dollar, push, Store, node_at}
use Rattle.arena.proofs.Soundness.{Rise, Full, Sound}
use Rattle.arena.proofs.Trees.{node_sound}
use Rattle.arena.specs.Place.{listed, intern}
use Rattle.arena.proofs.Placed.{intern_self}
use Rattle.arena.specs.Kinds.{size}
use Rattle.arena.specs.Room.{room}

-- ---- no entries, or `$` alone: context 0

root_node : (s : Store) → Sound s → 0 < length s → node_at s 0 ≡ dollar
root_node s w h = go (node_at s 0) (node_sound s w 0 h)
  where
    go : (n : Node) → Rise 0 0 n × Full n → n ≡ dollar
    go end v = absurd v.1
    go dollar v = refl
    go (push r p n) v = absurd (omega arith)

module _ (s : Store) (w : Sound s) (h : 0 < length s) where
  pub intern_dollar : intern s dollar ≡ (0, s)
  intern_dollar = rw (root_node s w h) at (intern_self s w 0 h)

  pub intern_end : intern s end ≡ (0, s)
  unfolding intern listed
  intern_end = intern_dollar

-- ---- two or more: an array, whose entries are all in the pool

pub room_many : (n : Node) → 2 ≤ size n → room n ≡ size n
unfolding size room
room_many end h = absurd (omega arith)
room_many dollar h = absurd (omega arith)
room_many (push r p end) h = absurd (omega arith)
room_many (push r p dollar) h = refl
room_many (push r p (push q o n)) h = refl
