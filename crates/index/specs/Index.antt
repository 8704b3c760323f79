-- The index in the scratch, as a function of the store: heads, links and hashes. Nothing here has to be believed.
use Rattle.std.specs.Prelude.{◌≡◌, List, ℕ, ◌<◌, ◌/◌, ◌%◌, ◌^◌, length}
use Rattle.arena.specs.Store.{Store}
use Rattle.layout.specs.Decode.{store_in}
use Rattle.layout.specs.Layout.{scratch_words}
use Rattle.layout.specs.Scratch.{head, link, low, high}
use Rattle.index.specs.Hash.{hash, node_hash, bucket_of}
use Rattle.index.specs.Records.{Records, Stacked, Proper, stack_node}
use Rattle.index.specs.Older.{older}
use Rattle.index.specs.Chain.{newest}

pub record Indexed (s : Store) (z : List ℕ) : Type 0 where
  pub sized : length z ≡ scratch_words
  pub heads : (b : ℕ) → b < 512 → head z b ≡ newest s b
  pub links : (c : ℕ) → c < length s → link z c ≡ newest (older s c) (bucket_of (hash s c))
  pub lows : (c : ℕ) → c < length s → low z c ≡ hash s c % 2 ^ 32
  pub highs : (c : ℕ) → c < length s → high z c ≡ hash s c / 2 ^ 32

-- what a lookup is given: sound records, their index, and entries on the stack with their hash
pub record Sought (w z : List ℕ) (count at n h : ℕ) : Type 0 where
  pub records : Records w count
  pub index : Indexed (store_in w count) z
  pub stacked : Stacked z at n count
  pub proper : Proper z at n
  pub hashed : h ≡ node_hash (hash (store_in w count)) (stack_node z at n)
