-- To believe: soundness of a store's words, as document 01 lists it, clause by clause and in that order.
use Rattle.std.specs.Prelude.{◌≡◌, ◌⊎◌, List, ℕ, suc, ◌<◌, ◌≤◌, ◌+◌, ◌*◌, get_or}
use Rattle.arena.specs.Room.{pool}
use Rattle.layout.specs.Layout.{stop, most_contexts, most_entries, count, used, kind, first, second, parent, state}
use Rattle.layout.specs.Decode.{node_in, store_in, store_of}

pub record SoundWords (w : List ℕ) : Type 0 where
  -- "Word 0 is the context count (1 to 512), word 1 the pool entries in use (0 to 2,048)"
  pub counted : (1 ≤ count w) × (count w ≤ most_contexts) × (used w ≤ most_entries)
  -- "Kind 0 stands only in record 0, with a and b 0." "No other kind is sound."
  pub root : (kind w 0 ≡ 0) × (first w 0 ≡ 0) × (second w 0 ≡ 0)
  pub kinds : (c : ℕ) → 0 < c → c < count w → (kind w c ≡ 1) ⊎ (kind w c ≡ 2)
  -- "each parent's number is below its child's"
  pub older : (c : ℕ) → c < count w → kind w c ≡ 1 → first w c < c
  pub older_entries : (c j : ℕ) → c < count w → kind w c ≡ 2 → j < second w c → parent w (first w c + j) < c
  -- "singleton states are at most 4294967294"
  pub single : (c : ℕ) → c < count w → kind w c ≡ 1 → second w c ≤ 4294967294
  -- "array lengths are at least 2, states rise strictly, a `$` has parent 0"; a state is a 32-bit word
  pub long : (c : ℕ) → c < count w → kind w c ≡ 2 → 2 ≤ second w c
  pub rise : (c j : ℕ) → c < count w → kind w c ≡ 2 → suc j < second w c → state w (first w c + j) < state w (first w c + suc j)
  pub dollar : (c j : ℕ) → c < count w → kind w c ≡ 2 → j < second w c → state w (first w c + j) ≡ stop → parent w (first w c + j) ≡ 0
  pub fit : (c j : ℕ) → c < count w → kind w c ≡ 2 → j < second w c → state w (first w c + j) ≤ stop
  -- "arrays fill the pool in record order without gaps": each starts where the entries of the records before it end
  pub filled : (c : ℕ) → c < count w → kind w c ≡ 2 → first w c ≡ pool (store_in w c)
  pub all_used : used w ≡ pool (store_of w)
  -- "no two records have the same meaning field by field (arrays by their entries)"
  pub differ : (c d : ℕ) → c < d → d < count w → node_in w c ≡ node_in w d → ⊥
  -- "all unused words are 0"
  pub unused_records : (i : ℕ) → 2 + 3 * count w ≤ i → i < 1538 → get_or w i 0 ≡ 0
  pub unused_parents : (i : ℕ) → used w ≤ i → i < 2048 → parent w i ≡ 0
  pub unused_states : (i : ℕ) → used w ≤ i → i < 2048 → state w i ≡ 0
