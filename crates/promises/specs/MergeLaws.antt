-- Promised: the laws by which merges are regrouped (request A7), for both modes m of a merge. es are the calls of one run, made one after another
-- in one store, none refused, any other calls in between; `merged m a b c` in es: a merge of a and b that answered c; `placed p r c`: the state r
-- over p, which answered c. Nothing here has to be believed but what the statements say.
use Rattle.std.specs.Prelude.{◌≡◌, refl, Bool, true, false, ℕ, ◌<◌, length}
use mathlib.Core.List.{List, Memᴰ}
use Rattle.stacks.specs.Forest.{Forest, mem}
use Rattle.arena.specs.Stands.{stands}
use Rattle.encoding.specs.Layout.{store_words, count as contexts}
use Rattle.encoding.specs.Decode.{store_of}
use Rattle.encoding.specs.Decide.{sound}
use Rattle.store.specs.Calls.{Accepts}
use Rattle.configs.specs.MergeCall.{merge_call}
use Rattle.configs.specs.Promises.{itself}
use Rattle.runs.specs.Runs.{Event, merged, placed, Run}
use Rattle.runs.proofs.MergeLaws as Laws

-- "merging with itself gives the same number", and makes nothing
pub with_itself : (w z : List ℕ) (a : ℕ) (m : Bool) (c : ℕ) (v : List ℕ) → Accepts (merge_call w z a a m) c v → (c ≡ a) × (v ≡ w)
with_itself w z a m c v ok = itself w z a a m c v ok refl

module _ {w v : List ℕ} {es : List Event} (l : length w ≡ store_words) (t : sound w ≡ true) (run : Run w es v) (m : Bool) where
  -- "the sides can be exchanged"
  pub sides : (a b c d : ℕ) → Memᴰ (merged m a b c) es → Memᴰ (merged m b a d) es → c ≡ d
  sides = Laws.sides l t run m

  -- "three contexts can be grouped either way". By wildcard too, though tails go: a tail goes where one of the three ends, whichever comes first
  pub grouping : (a b c ab ab-c bc a-bc : ℕ) → Memᴰ (merged m a b ab) es → Memᴰ (merged m ab c ab-c) es
      → Memᴰ (merged m b c bc) es → Memᴰ (merged m a bc a-bc) es → ab-c ≡ a-bc
  grouping = Laws.grouping l t run m

  -- "placing one return state over two contexts and merging equals merging first and placing it after, the empty mark included": what goes, by
  -- wildcard, goes beneath the state as it would without it
  pub placing : (r a b ra rb ra-rb ab r-ab : ℕ) → Memᴰ (placed a r ra) es → Memᴰ (placed b r rb) es → Memᴰ (merged m ra rb ra-rb) es
      → Memᴰ (merged m a b ab) es → Memᴰ (placed ab r r-ab) es → ra-rb ≡ r-ab
  placing = Laws.placing l t run m

-- "0 swallows anything in a wildcard merge"
pub swallows : {w v : List ℕ} {es : List Event} → length w ≡ store_words → sound w ≡ true → Run w es v → (a c : ℕ)
    → (Memᴰ (merged true 0 a c) es → c ≡ 0) × (Memᴰ (merged true a 0 c) es → c ≡ 0)
swallows l t run a c = (Laws.swallows_right l t run a c, Laws.swallows_left l t run a c)

-- "for every context there is a set of stacks, in this store or not, that a union with it changes, so nothing is neutral in a full merge": the set G
-- has a stack, and lacks one of the context's
pub none_neutral : (w : List ℕ) → length w ≡ store_words → sound w ≡ true → (c : ℕ) → c < contexts w
    → (G : Forest) × ((ρ : List ℕ) × (mem G ρ ≡ true)) × ((σ : List ℕ) × (mem G σ ≡ false) × (stands (store_of w) c σ ≡ true))
none_neutral = Laws.none_neutral
