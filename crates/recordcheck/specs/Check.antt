-- What the check of a store says of a record, and what it keeps while it goes from record to record. Nothing here has to be believed.
use Rattle.std.specs.Prelude.{◌≡◌, Bool, true, false, List, ◌∷◌, ℕ, suc, ◌<◌, ◌≤◌, ◌+◌, ◌*◌, length, get_or, Option, Some, None}
use Rattle.arena.specs.Store.{find, nowhere}
use Rattle.layout.specs.Layout.{scratch_words, most_entries, stop, count, kind, first, second, parent, state}
use Rattle.layout.specs.Listing.Laws.{Entries}
use Rattle.layout.specs.Decode.{node_in, store_in, store_of}
use Rattle.layout.specs.Sound.{SoundWords}
use Rattle.encoding.specs.Reads.{lengths}
use Rattle.index.specs.Records.{Records, Stacked, Proper, stack_node}
use Rattle.index.specs.Index.{Indexed}

-- record c, not the first, is sound after the records before it
pub data GoodRecord (w : List ℕ) (c : ℕ) : Type 0 where
  single : kind w c ≡ 1 → first w c < c → second w c < stop → find (node_in w c) (store_in w c) ≡ nowhere → GoodRecord w c
  array : kind w c ≡ 2 → 2 ≤ second w c → first w c ≡ lengths w c → first w c + second w c ≤ most_entries
      → Entries (state w) (parent w) (first w c) (second w c) c → find (node_in w c) (store_in w c) ≡ nowhere → GoodRecord w c

-- the first c records are sound and indexed, and hold q pool entries
pub record Passed (w z : List ℕ) (c q : ℕ) : Type 0 where
  pub records : Records w c
  pub index : Indexed (store_in w c) z
  pub some : 0 < c
  pub root : kind w 0 ≡ 0
  pub filled : q ≡ lengths w c
  pub within : q ≤ most_entries
  pub good : (d : ℕ) → 0 < d → d < c → GoodRecord w d

-- the judgement of record c, and the scratch after it
abbrev pub Judged : List ℕ → ℕ → Option ℕ → List ℕ → Type 0
Judged w c (Some q) z = Passed w z (suc c) q
Judged w c None z = (GoodRecord w c → ⊥) × (length z ≡ scratch_words)

-- entries on the stack, looked for among the first c records
pub record Fresh (w z : List ℕ) (c n : ℕ) : Type 0 where
  pub records : Records w c
  pub few : c < 512
  pub index : Indexed (store_in w c) z
  pub stacked : Stacked z 0 n c
  pub proper : Proper z 0 n

-- they are new, and then the index has them as context c; or they are not
abbrev pub FoundNew : List ℕ → List ℕ → ℕ → ℕ → Bool → List ℕ → Type 0
FoundNew w z c n true u = (find (stack_node z 0 n) (store_in w c) ≡ nowhere) × Indexed (stack_node z 0 n ∷ store_in w c) u
FoundNew w z c n false u = (find (stack_node z 0 n) (store_in w c) ≡ nowhere → ⊥) × (length u ≡ scratch_words)

-- a test tells whether P
abbrev pub Tells : Type 0 → Bool → Type 0
Tells P true = P
Tells P false = P → ⊥

-- the state at place j is above the one before it in a list that starts at `from`
abbrev pub Above : (ℕ → ℕ) → ℕ → ℕ → Type 0
Above st from j = (i : ℕ) → from ≤ i → suc i ≡ j → st i < st j

-- one pool entry in its list, which starts at `from`
pub record EntryAt (st pa : ℕ → ℕ) (from j c : ℕ) : Type 0 where
  pub older : pa j < c
  pub rise : Above st from j
  pub dollar : st j ≡ stop → pa j ≡ 0

-- the judgement of all records after the first
abbrev pub AllJudged : List ℕ → ℕ → Option ℕ → List ℕ → Type 0
AllJudged w c (Some q) z = Passed w z c q
AllJudged w c None z = (((d : ℕ) → 0 < d → d < c → GoodRecord w d) → ⊥) × (length z ≡ scratch_words)

-- record 0 is the empty context
abbrev pub Root : List ℕ → Type 0
Root w = (kind w 0 ≡ 0) × (first w 0 ≡ 0) × (second w 0 ≡ 0)

abbrev pub RootJudged : List ℕ → Bool → List ℕ → Type 0
RootJudged w true z = Root w × Passed w z 1 0
RootJudged w false z = (Root w → ⊥) × (length z ≡ scratch_words)

-- "all unused words are 0"
pub record Unused (w : List ℕ) (c q : ℕ) : Type 0 where
  pub records : (i : ℕ) → 2 + 3 * c ≤ i → i < 1538 → get_or w i 0 ≡ 0
  pub parents : (i : ℕ) → q ≤ i → i < 2048 → parent w i ≡ 0
  pub states : (i : ℕ) → q ≤ i → i < 2048 → state w i ≡ 0

-- the words are sound, and the scratch has their index
pub record Ready (w z : List ℕ) : Type 0 where
  pub sized : length w ≡ 5634
  pub sound : SoundWords w
  pub records : Records w (count w)
  pub index : Indexed (store_of w) z

-- the verdict on a store
abbrev pub StoreJudged : List ℕ → Bool → List ℕ → Type 0
StoreJudged w true z = Ready w z
StoreJudged w false z = (SoundWords w → ⊥) × (length z ≡ scratch_words)
