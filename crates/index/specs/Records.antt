-- What code may rely on: the first c records of a store's words are sound, and so are entries on the stack. Nothing here has to be believed.
use Rattle.std.specs.Prelude.{◌≡◌, List, ℕ, ◌<◌, ◌≤◌, ◌+◌, ◌*◌, ◌^◌, length}
use Rattle.arena.specs.Store.{Node}
use Rattle.arena.proofs.Soundness.{Sound}
use Rattle.layout.specs.Layout.{store_words, scratch_words, most_contexts, most_entries, stop, kind, first, second, parent, state}
use Rattle.layout.specs.Scratch.{low, high, stack_parent, stack_state}
use Rattle.layout.specs.Listing.{listing}
use Rattle.layout.specs.Listing.Laws.{Entries}
use Rattle.layout.specs.Decode.{store_in}

-- the first c records
pub record Records (w : List ℕ) (c : ℕ) : Type 0 where
  pub sized : length w ≡ store_words
  pub few : c ≤ most_contexts
  pub kinds : (i : ℕ) → i < c → kind w i ≤ 2
  pub long : (i : ℕ) → i < c → kind w i ≡ 2 → 2 ≤ second w i
  pub within : (i : ℕ) → i < c → kind w i ≡ 2 → first w i + second w i ≤ most_entries
  pub entries : (i : ℕ) → i < c → kind w i ≡ 2 → Entries (state w) (parent w) (first w i) (second w i) i
  pub sound : Sound (store_in w c)

-- how many entries the stack has room for
abbrev pub stack_entries : ℕ
stack_entries = 4200

-- the n entries on the stack from place `at` on
abbrev pub stack_node : List ℕ → ℕ → ℕ → Node
stack_node z at n = listing (stack_state z) (stack_parent z) at n

-- they are sound below the context c
pub record Stacked (z : List ℕ) (at n c : ℕ) : Type 0 where
  pub sized : length z ≡ scratch_words
  pub room : at + n ≤ stack_entries
  pub entries : Entries (stack_state z) (stack_parent z) at n c

-- there are some, and not `$` alone
pub record Proper (z : List ℕ) (at n : ℕ) : Type 0 where
  pub some : 0 < n
  pub not_dollar : n ≡ 1 → stack_state z at < stop

-- the hash that the index holds of a context
unfoldable pub hash_in : List ℕ → ℕ → ℕ
hash_in z c = high z c * 2 ^ 32 + low z c
