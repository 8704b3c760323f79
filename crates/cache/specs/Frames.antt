-- Writes beside the cache leave it as it is, and a merge counted leaves the results. Nothing here has to be believed.
use Rattle.std.specs.Prelude.{◌≡◌, ◌≢◌, List, ℕ, ◌<◌, ◌≤◌, ◌+◌, ◌/◌, length, get_or, set}
use Rattle.std.proofs.Math.Path.{sym, ap}
use Rattle.std.proofs.Common.{◌∙◌, arith, get_or-set_other}
use Rattle.std.proofs.Math.Seq.{get_or-set_same}
use Rattle.work.proofs.KeptWords.{kept_in, kept_frame}
use Rattle.cache.specs.Cache.{kept_count, merges_counted, kept_of, result_word, result_link, bucket_head, bucket_of, bucket_at, newest, CacheSound}
use Rattle.cache.specs.Chain.{newest_frame}

module _ (z u : List ℕ) (same : (i : ℕ) → 2048 ≤ i → i < 7936 → get_or u i 0 ≡ get_or z i 0) (number : get_or u 16336 0 ≡ get_or z 16336 0) (v : CacheSound z) where
  count_same : kept_count u ≡ kept_count z
  unfolding kept_count
  count_same = number

  word_same : (i : ℕ) → i < kept_count z → result_word u i ≡ result_word z i
  unfolding result_word
  word_same i h = same (2048 + i) (omega arith) (omega (arith, v.few))

  pub kept_same : kept_of u ≡ kept_of z
  unfolding result_word
  kept_same = ap (kept_in 2048 u) count_same ∙ kept_frame 2048 z u (kept_count z) word_same

  pub cache_frame : CacheSound u
  unfolding result_link bucket_head
  cache_frame = record {
    few = omega (arith, count_same, v.few);
    small = λ i h. let k : i < kept_count z = omega (arith, count_same) in rw (word_same i k) (v.small i k);
    heads = λ b h.
        same (4096 + b) (omega arith) (omega arith)
        ∙ v.heads b h
        ∙ sym (newest_frame z u (kept_count z) b word_same)
        ∙ ap (λ (n : ℕ). newest u n b) (sym count_same);
    links = λ i h.
        let k : i < kept_count z = omega (arith, count_same) in
        same (3072 + i) (omega arith) (omega (arith, v.few))
        ∙ v.links i k
        ∙ sym (newest_frame z u i (bucket_at z i) (λ j l. word_same j (omega arith)))
        ∙ ap (λ (x : ℕ). newest u i (bucket_of (x / 512))) (sym (word_same i k));
  }

pub merges_same : (z u : List ℕ) → get_or u 16337 0 ≡ get_or z 16337 0 → merges_counted u ≡ merges_counted z
unfolding merges_counted
merges_same z u e = e

-- ---- a merge counted

module _ (z : List ℕ) (x : ℕ) where
  count_beside : (i : ℕ) → i ≢ 16337 → get_or (set z 16337 x) i 0 ≡ get_or z i 0
  count_beside i h = rw get_or-set_other

  pub counted_sound : CacheSound z → CacheSound (set z 16337 x)
  counted_sound v = cache_frame z (set z 16337 x) (λ i h k. count_beside i (omega arith)) (count_beside 16336 (omega arith)) v

  pub counted_kept : CacheSound z → kept_of (set z 16337 x) ≡ kept_of z
  counted_kept v = kept_same z (set z 16337 x) (λ i h k. count_beside i (omega arith)) (count_beside 16336 (omega arith)) v

  pub counted_merges : 16337 < length z → merges_counted (set z 16337 x) ≡ x
  unfolding merges_counted
  counted_merges h = rw get_or-set_same
