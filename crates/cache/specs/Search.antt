-- A lookup in the cache: where it starts, and a step of it. Cited by the proof of `cached`. Nothing here has to be believed.
use Rattle.std.specs.Prelude.{◌≡◌, refl, Bool, List}
use Rattle.std.proofs.Common.{sym, ◌∙◌, arith}
use Rattle.std.proofs.Math.Path.{ap}
use Prim.Native.Nat.{ℕ, suc, ◌<◌, ◌≤◌, ◌-◌, ◌/◌, ◌%◌}
use Rattle.work.specs.Store.{at, nowhere}
use Rattle.work.specs.Counted.{recall}
use Rattle.work.proofs.KeptWords.{kept_in}
use Rattle.cache.specs.Cache.{kept_count, kept_of, result_word, result_link, bucket_head, key_of, bucket_of, bucket_at, newest, CacheSound}
use Rattle.cache.specs.Chain.{newest_le, newest_bucket, word_hit, word_past, skip}

-- what is known at the link k of a lookup of m, a and b: it leads to the newest of the first `under` results, and newer ones are others
pub record Going (z : List ℕ) (m : Bool) (a b k : ℕ) : Type 0 where
  pub under : ℕ
  pub within : under ≤ kept_count z
  pub leads : k ≡ newest z under (bucket_of (key_of m a b))
  pub same : recall m a b (kept_of z) ≡ recall m a b (kept_in 2048 z under)

pub head_small : (z : List ℕ) → CacheSound z → (c : ℕ) → c < 1024 → bucket_head z c ≤ 1024
head_small z v c h = omega (arith, v.few, v.heads c h, newest_le z (kept_count z) c)

module _ (z : List ℕ) (m : Bool) (a b : ℕ) (v : CacheSound z) where
  pub begin : (c : ℕ) → c ≡ bucket_of (key_of m a b) → c < 1024 → Going z m a b (bucket_head z c)
  begin c e h = record {
    under = kept_count z;
    within = omega arith;
    leads = v.heads c h ∙ ap (newest z (kept_count z)) e;
    same = refl;
  }

  module _ (k : ℕ) (g : Going z m a b k) where
    here_same : recall m a b (kept_of z) ≡ recall m a b (kept_in 2048 z k)
    here_same = g.same ∙ skip z m a b g.under (λ i h. v.small i (omega (arith, g.within))) ∙ ap (λ (n : ℕ). recall m a b (kept_in 2048 z n)) (sym g.leads)

    pub missing : k ≡ 0 → recall m a b (kept_of z) ≡ nowhere
    unfolding kept_in recall
    missing e = here_same ∙ rw e

    module _ (d : k ≡ 0 → ⊥) where
      next : k ≡ suc (k - 1)
      next = omega arith

      here : k - 1 < kept_count z
      here = omega (arith, g.within, (newest_bucket z g.under (bucket_of (key_of m a b)) (k - 1) (sym g.leads ∙ next)).0)

      front : recall m a b (kept_of z) ≡ recall m a b (kept_in 2048 z (suc (k - 1)))
      front = here_same ∙ ap (λ (n : ℕ). recall m a b (kept_in 2048 z n)) next

      pub hit : a < 512 → b < 512 → result_word z (k - 1) / 512 ≡ key_of m a b → recall m a b (kept_of z) ≡ at (result_word z (k - 1) % 512)
      unfolding kept_in result_word
      hit h i e = front ∙ word_hit m a b (result_word z (k - 1)) (kept_in 2048 z (k - 1)) h i e

      pub onward : (result_word z (k - 1) / 512 ≡ key_of m a b → ⊥) → Going z m a b (result_link z (k - 1)) × (result_link z (k - 1) < k)
      unfolding kept_in result_word
      onward other =
          let c : ℕ = bucket_of (key_of m a b) in
          let i : ℕ = k - 1 in
          let in_bucket : bucket_at z i ≡ c = (newest_bucket z g.under c i (sym g.leads ∙ next)).1 in
          let there : result_link z i ≡ newest z i c = v.links i here ∙ ap (newest z i) in_bucket in (
            record {
              under = i;
              within = omega (arith, here);
              leads = there;
              same = front ∙ word_past m a b (result_word z i) (kept_in 2048 z i) (v.small i here) other;
            },
            omega (arith, there, newest_le z i c),
          )
