-- The cache's words in the scratch, when they are sound, and what code of this crate leaves there. `z` and `u` are the scratch's words before
-- and after. Nothing here has to be believed.
use Rattle.std.specs.Prelude.{◌≡◌, ◌≢◌, Bool, true, false, List, [], ℕ, zero, suc, ◌<◌, ◌≤◌, ◌+◌, ◌*◌, ◌/◌, ◌%◌, min, max, eqb, length, get_or, set}
use Rattle.work.specs.Layout.{most_contexts, scratch_words}
use Rattle.words.specs.Lent.{cleared_range}
use Rattle.work.specs.Counted.{Result, keep, most_merges, most_results}
use Rattle.work.proofs.CountedLaws.{result}
use Rattle.work.proofs.KeptWords.{bit, kept_in}

-- ---- the words by name

-- how many results are kept, and how many merges were counted
unfoldable pub kept_count : List ℕ → ℕ
kept_count z = get_or z 16336 0

unfoldable pub merges_counted : List ℕ → ℕ
merges_counted z = get_or z 16337 0

-- the word of the result at a place, and the link from it; the head of a bucket's chain
unfoldable pub result_word : List ℕ → ℕ → ℕ
result_word z i = get_or z (2048 + i) 0

unfoldable pub result_link : List ℕ → ℕ → ℕ
result_link z i = get_or z (3072 + i) 0

unfoldable pub bucket_head : List ℕ → ℕ → ℕ
bucket_head z b = get_or z (4096 + b) 0

-- the results kept, the newest first
abbrev pub kept_of : List ℕ → List Result
kept_of z = kept_in 2048 z (kept_count z)

-- ---- keys and buckets

-- the kind of a merge and its sides, the smaller first
abbrev pub key_of : Bool → ℕ → ℕ → ℕ
key_of m a b = (bit m * 512 + a) * 512 + b

unfoldable pub bucket_of : ℕ → ℕ
bucket_of k = k * 2654435769 / 4194304 % 1024

-- the bucket of the result at a place
abbrev pub bucket_at : List ℕ → ℕ → ℕ
bucket_at z i = bucket_of (result_word z i / 512)

-- 1 + the place of the newest of the first n results that is in the bucket b, 0 for none
unfoldable pub newest : List ℕ → ℕ → ℕ → ℕ
newest z zero b = 0
newest z (suc n) b = elim (eqb (bucket_at z n) b) [ true ↦ suc n | false ↦ newest z n b ]

-- ---- a sound cache

-- words are of 28 bits, and heads and links lead to the next older result of the bucket
pub record CacheSound (z : List ℕ) : Type 0 where
  pub few : kept_count z ≤ most_results
  pub small : (i : ℕ) → i < kept_count z → result_word z i < 268435456
  pub heads : (b : ℕ) → b < 1024 → bucket_head z b ≡ newest z (kept_count z) b
  pub links : (i : ℕ) → i < kept_count z → result_link z i ≡ newest z i (bucket_at z i)

-- it is asked for a merge of a and b
pub record Asked (z : List ℕ) (a b : ℕ) : Type 0 where
  pub sized : length z ≡ scratch_words
  pub sound : CacheSound z
  pub left : a < most_contexts
  pub right : b < most_contexts

-- ---- what is left

-- no result is kept and no merge counted
pub record Emptied (z u : List ℕ) : Type 0 where
  pub sized : length u ≡ length z
  pub sound : CacheSound u
  pub kept : kept_of u ≡ []
  pub merges : merges_counted u ≡ 0
  pub others : (i : ℕ) → (2048 ≤ i → i < 7936 → ⊥) → i ≢ 16336 → i ≢ 16337 → get_or u i 0 ≡ get_or z i 0

-- the result c of the merge of a and b is completed
pub record Remembered (z : List ℕ) (m : Bool) (a b c : ℕ) (u : List ℕ) : Type 0 where
  pub sized : length u ≡ length z
  pub sound : CacheSound u
  pub kept : kept_of u ≡ keep (result m (min a b) (max a b) c) (kept_of z)
  pub merges : merges_counted u ≡ merges_counted z
  pub others : (i : ℕ) → (2048 ≤ i → i < 7936 → ⊥) → i ≢ 16336 → get_or u i 0 ≡ get_or z i 0

-- one merge more is counted, or the ceiling is reached
abbrev pub Counts : List ℕ → Bool → List ℕ → Type 0
Counts z true u = (merges_counted z < most_merges) × (u ≡ set z 16337 (suc (merges_counted z)))
Counts z false u = (most_merges ≤ merges_counted z) × (u ≡ z)

-- ---- what is written

-- the heads and both counts 0
unfoldable pub cleared_cache : List ℕ → List ℕ
cleared_cache z = set (set (cleared_range z 4096 5120) 16336 0) 16337 0

-- a result with the key k at place i, in front of its bucket's chain
unfoldable pub put_result : List ℕ → ℕ → ℕ → ℕ → List ℕ
put_result z i k c =
    set (set (set (set z (2048 + i) (k * 512 + c)) (3072 + i) (bucket_head z (bucket_of k))) (4096 + bucket_of k) (i + 1)) 16336 (i + 1)
