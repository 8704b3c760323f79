-- Entries on the stack that are looked for among the records before them. Nothing here has to be believed.
use Rattle.std.specs.Prelude.{◌≡◌, List, ◌∷◌, ℕ, length}
use Rattle.std.proofs.Common.{◌∙◌, arith}
use Rattle.layout.specs.Scratch.{stack_parent, stack_state}
use Rattle.layout.specs.Listing.Laws.{entries_le, listing_rise}
use Rattle.layout.specs.Decode.{store_in}
use Rattle.layout.specs.Decode.Laws.{store_length}
use Rattle.index.specs.Hash.{hash, node_hash, node_hash_agree}
use Rattle.index.specs.Index.{Indexed, Sought}
use Rattle.index.specs.Records.{Stacked, stack_node, hash_in}
use Rattle.index.specs.Writes.{put_index}
use Rattle.index.specs.Grow.{index_add}
use Rattle.index.specs.Walk.{hash_held}
use Rattle.recordcheck.specs.Check.{Fresh}

module _ (w z : List ℕ) (c n : ℕ) (v : Fresh w z c n) where
  pub fresh_stacked : Stacked z 0 n 512
  fresh_stacked = record {
    sized = v.stacked.sized;
    room = v.stacked.room;
    entries = entries_le (stack_state z) (stack_parent z) 0 n c 512 (omega (arith, v.few)) v.stacked.entries;
  }

  module _ (h : ℕ) (e : h ≡ node_hash (hash_in z) (stack_node z 0 n)) where
    pub fresh_hash : h ≡ node_hash (hash (store_in w c)) (stack_node z 0 n)
    fresh_hash =
        e ∙ node_hash_agree (hash_in z) (hash (store_in w c)) 0 c (stack_node z 0 n)
        (listing_rise (stack_state z) (stack_parent z) 0 0 n c v.stacked.entries (λ _. omega arith))
        (λ p l. hash_held (store_in w c) z v.index p (omega (arith, store_length w c)))

    pub fresh_sought : Sought w z c 0 n h
    fresh_sought = record { records = v.records; index = v.index; stacked = v.stacked; proper = v.proper; hashed = fresh_hash }

    pub fresh_indexed : Indexed (stack_node z 0 n ∷ store_in w c) (put_index z c h)
    fresh_indexed =
        let l : length (store_in w c) ≡ c = store_length w c in
        rw l at (index_add (store_in w c) (stack_node z 0 n) z h (omega (arith, v.few)) fresh_hash v.index)
