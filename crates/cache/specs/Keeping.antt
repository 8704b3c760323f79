-- The cache's writes: a result put in front of its chain, nothing written, and all made empty. Nothing here has to be believed.
use Rattle.std.specs.Prelude.{◌≡◌, refl, Bool, ℕ, suc, ◌<◌, ◌≤◌, ◌+◌, ◌*◌, ◌/◌, min, max, get_or, set}
use Rattle.std.proofs.Common.{sym, ◌∙◌}
use Rattle.std.proofs.Math.Path.{ap}
use Rattle.std.proofs.Math.Logic.{◌≢◌}
use mathlib.Core.List.{List, ◌∷◌}
use native.Mathlib.Omega.{arith}
use Rattle.std.proofs.Math.ListN.{length, length-set}
use Rattle.std.proofs.Math.Seq.{get_or-set_same, get_or-set_other}
use Rattle.words.specs.Numbers.{two, below?}
use Rattle.words.specs.Lent.{cleared_range}
use Rattle.words.specs.Lent.Laws.{length_cleared_range, cleared_range_before, cleared_range_inside, cleared_range_after}
use Rattle.work.specs.Counted.{Result}
use Rattle.work.proofs.CountedLaws.{result}
use Rattle.work.proofs.Equations.{keep_more, keep_full}
use Rattle.work.proofs.KeptWords.{result_in, read_back, kept_in, kept_frame, kept_length}
use Rattle.cache.specs.Cache.{kept_count, merges_counted, kept_of, result_word, result_link, bucket_head, key_of, bucket_of, bucket_at, newest, CacheSound, Asked}
use Rattle.cache.specs.Cache.{Emptied, Remembered, cleared_cache, put_result}
use Rattle.cache.specs.Keys.{sides_small}
use Rattle.cache.specs.Chain.{newest_here, newest_older, newest_frame}

bucket_small : (k : ℕ) → bucket_of k < 1024
unfolding bucket_of
bucket_small k = omega arith

-- ---- the words of a result put at place i

module _ (z : List ℕ) (i k c : ℕ) (l : length z ≡ 16384) (h : i < 1024) where
  put_length : length (put_result z i k c) ≡ length z
  unfolding put_result
  put_length = simp length-set

  put_beside : (j : ℕ) → j ≢ 2048 + i → j ≢ 3072 + i → j ≢ 4096 + bucket_of k → j ≢ 16336 → get_or (put_result z i k c) j 0 ≡ get_or z j 0
  unfolding put_result
  put_beside j p q r s = rw (get_or-set_other, get_or-set_other, get_or-set_other, get_or-set_other)

  put_count : kept_count (put_result z i k c) ≡ suc i
  unfolding kept_count put_result
  put_count =
      let x : 16336 < length (set (set (set z (2048 + i) (k * 512 + c)) (3072 + i) (bucket_head z (bucket_of k))) (4096 + bucket_of k) (i + 1)) =
      simp length-set (omega arith) in
      rw get_or-set_same (omega arith)

  put_head : bucket_head (put_result z i k c) (bucket_of k) ≡ suc i
  unfolding bucket_head put_result
  put_head =
      let s = bucket_small k in
      let o : 4096 + bucket_of k ≢ 16336 = omega arith in
      let x : 4096 + bucket_of k < length (set (set z (2048 + i) (k * 512 + c)) (3072 + i) (bucket_head z (bucket_of k))) =
      simp length-set (omega arith) in
      rw (get_or-set_other, get_or-set_same) (omega arith)

  put_link : result_link (put_result z i k c) i ≡ bucket_head z (bucket_of k)
  unfolding result_link put_result
  put_link =
      let o : 3072 + i ≢ 16336 = omega arith in
      let p : 3072 + i ≢ 4096 + bucket_of k = omega arith in
      let x : 3072 + i < length (set z (2048 + i) (k * 512 + c)) = simp length-set (omega arith) in
      rw (get_or-set_other, get_or-set_other, get_or-set_same)

  put_word : result_word (put_result z i k c) i ≡ k * 512 + c
  unfolding result_word put_result
  put_word =
      let o : 2048 + i ≢ 16336 = omega arith in
      let p : 2048 + i ≢ 4096 + bucket_of k = omega arith in
      let q : 2048 + i ≢ 3072 + i = omega arith in
      let x : 2048 + i < length z = omega arith in
      rw (get_or-set_other, get_or-set_other, get_or-set_other, get_or-set_same)

  older_word : (j : ℕ) → j < i → result_word (put_result z i k c) j ≡ result_word z j
  unfolding result_word
  older_word j g = put_beside (2048 + j) (omega arith) (omega arith) (omega arith) (omega arith)

  older_link : (j : ℕ) → j < i → result_link (put_result z i k c) j ≡ result_link z j
  unfolding result_link
  older_link j g = put_beside (3072 + j) (omega arith) (omega arith) (omega arith) (omega arith)

  other_head : (b : ℕ) → b < 1024 → (b ≡ bucket_of k → ⊥) → bucket_head (put_result z i k c) b ≡ bucket_head z b
  unfolding bucket_head
  other_head b g d = put_beside (4096 + b) (omega arith) (omega arith) (omega arith) (omega arith)

  put_others : (j : ℕ) → (2048 ≤ j → j < 7936 → ⊥) → j ≢ 16336 → get_or (put_result z i k c) j 0 ≡ get_or z j 0
  put_others j away p =
      let s = bucket_small k in
      put_beside j
      (λ e. away (omega arith) (omega arith)) (λ e. away (omega arith) (omega arith)) (λ e. away (omega arith) (omega arith)) p

  put_merges : merges_counted (put_result z i k c) ≡ merges_counted z
  unfolding merges_counted
  put_merges = put_others 16337 (λ p q. omega arith) (omega arith)

  -- ---- and its chain

  here_bucket : c < 512 → bucket_at (put_result z i k c) i ≡ bucket_of k
  here_bucket g = let e : (k * 512 + c) / 512 ≡ k = omega arith in ap (λ (x : ℕ). bucket_of (x / 512)) put_word ∙ ap bucket_of e

  older_newest : (n b : ℕ) → n ≤ i → newest (put_result z i k c) n b ≡ newest z n b
  older_newest n b g = newest_frame z (put_result z i k c) n b (λ j p. older_word j (omega arith))

module _ (z : List ℕ) (n k c : ℕ) (l : length z ≡ 16384) (v : CacheSound z) (e : kept_count z ≡ n) (h : n < 1024) (g : c < 512) (small : k < 524288) where
  abbrev u : List ℕ
  u = put_result z n k c

  put_heads : (b : ℕ) → b < 1024 → bucket_head u b ≡ newest u (suc n) b
  put_heads b p =
      two b (bucket_of k)
      (λ q. rw q (put_head z n k c l h ∙ sym (newest_here u n (bucket_of k) (here_bucket z n k c l h g))))
      (λ d. other_head z n k c l h b p d
      ∙ v.heads b p
      ∙ ap (λ (j : ℕ). newest z j b) e
      ∙ sym (older_newest z n k c l h n b (omega arith))
      ∙ sym (newest_older u n b (λ q. d (sym q ∙ here_bucket z n k c l h g))))

  put_links : (i : ℕ) → i < suc n → result_link u i ≡ newest u i (bucket_at u i)
  put_links i p =
      two i n
      (λ q. rw q
      (put_link z n k c l h
      ∙ v.heads (bucket_of k) (bucket_small k)
      ∙ ap (λ (j : ℕ). newest z j (bucket_of k)) e
      ∙ sym (older_newest z n k c l h n (bucket_of k) (omega arith))
      ∙ ap (newest u n) (sym (here_bucket z n k c l h g))))
      (λ d. let j : i < n = omega arith in
      older_link z n k c l h i j
      ∙ v.links i (omega arith)
      ∙ sym (older_newest z n k c l h i (bucket_at z i) (omega arith))
      ∙ ap (λ (x : ℕ). newest u i (bucket_of (x / 512))) (sym (older_word z n k c l h i j)))

  put_small : (i : ℕ) → i < suc n → result_word u i < 268435456
  put_small i p =
      two i n
      (λ q. rw (q, put_word z n k c l h) (omega arith))
      (λ d. let j : i < n = omega arith in rw (older_word z n k c l h i j) (v.small i (omega arith)))

  put_sound : CacheSound u
  put_sound =
      let t = put_count z n k c l h in
      record {
        few = omega arith;
        small = λ i p. put_small i (omega arith);
        heads = λ b p. rw t (put_heads b p);
        links = λ i p. put_links i (omega arith);
      }

  put_kept : kept_of u ≡ result_in (k * 512 + c) ∷ kept_of z
  unfolding kept_in result_word
  put_kept =
      rw (put_count z n k c l h, e)
      (ap (λ (x : ℕ). result_in x ∷ kept_in 2048 u n) (put_word z n k c l h)
      ∙ ap (λ (t : List Result). result_in (k * 512 + c) ∷ t) (kept_frame 2048 z u n (λ i p. older_word z n k c l h i p)))

-- ---- a result is completed

module _ (z : List ℕ) (m : Bool) (a b c : ℕ) (v : Asked z a b) (g : c < 512) where
  -- it is kept
  pub put_remembered : (k : ℕ) → k ≡ key_of m (min a b) (max a b) → k < 524288 → kept_count z < 1024 → Remembered z m a b c (put_result z (kept_count z) k c)
  put_remembered k e small h =
      let n : ℕ = kept_count z in
      let r : Result = result m (min a b) (max a b) c in
      let s = sides_small a b v.left v.right in
      let back : result_in (k * 512 + c) ≡ r = ap (λ (x : ℕ). result_in (x * 512 + c)) e ∙ read_back m (min a b) (max a b) c s.0 s.1 g in
      let less : length (kept_of z) < 1024 = omega (arith, kept_length 2048 z n) in
      record {
        sized = put_length z n k c v.sized h;
        sound = put_sound z n k c v.sized v.sound refl h g small;
        kept = put_kept z n k c v.sized v.sound refl h g small ∙ ap (λ (y : Result). y ∷ kept_of z) back ∙ sym (keep_more r (kept_of z) less);
        merges = put_merges z n k c v.sized h;
        others = put_others z n k c v.sized h;
      }

  -- there are as many as are kept
  pub none_remembered : 1024 ≤ kept_count z → Remembered z m a b c z
  none_remembered h = record {
    sized = refl;
    sound = v.sound;
    kept = sym (keep_full (result m (min a b) (max a b) c) (kept_of z) (omega (arith, kept_length 2048 z (kept_count z))));
    merges = refl;
    others = λ i p q. refl;
  }

-- ---- the cache made empty

module _ (z : List ℕ) (l : length z ≡ 16384) where
  range_length : length (cleared_range z 4096 5120) ≡ length z
  range_length = length_cleared_range z 4096 5120 (omega arith) (omega arith)

  cleared_count : kept_count (cleared_cache z) ≡ 0
  unfolding kept_count cleared_cache
  cleared_count =
      let o : ◌≢◌ {A = ℕ} 16336 16337 = omega arith in
      let x : 16336 < length (cleared_range z 4096 5120) = omega (arith, range_length) in
      rw (get_or-set_other, get_or-set_same)

  cleared_merges : merges_counted (cleared_cache z) ≡ 0
  unfolding merges_counted cleared_cache
  cleared_merges =
      let x : 16337 < length (set (cleared_range z 4096 5120) 16336 0) = simp length-set (omega (arith, range_length)) in
      rw get_or-set_same

  cleared_others : (i : ℕ) → (2048 ≤ i → i < 7936 → ⊥) → i ≢ 16336 → i ≢ 16337 → get_or (cleared_cache z) i 0 ≡ get_or z i 0
  unfolding cleared_cache
  cleared_others i away p q =
      rw (get_or-set_other, get_or-set_other)
      (below? i 4096
      (λ h. cleared_range_before z 4096 5120 (omega arith) (omega arith) i h)
      (λ h. below? i 5120
      (λ k. absurd (away (omega arith) (omega arith)))
      (λ k. cleared_range_after z 4096 5120 (omega arith) (omega arith) i k)))

  cleared_head : (b : ℕ) → b < 1024 → bucket_head (cleared_cache z) b ≡ 0
  unfolding bucket_head cleared_cache
  cleared_head b h =
      let o : 4096 + b ≢ 16336 = omega arith in
      let p : 4096 + b ≢ 16337 = omega arith in
      rw (get_or-set_other, get_or-set_other) (cleared_range_inside z 4096 5120 (omega arith) (omega arith) (4096 + b) (omega arith) (omega arith))

  cleared_length : length (cleared_cache z) ≡ length z
  unfolding cleared_cache
  cleared_length = simp length-set range_length

  pub cleared_emptied : Emptied z (cleared_cache z)
  unfolding newest kept_in
  cleared_emptied = record {
    sized = cleared_length;
    sound = record {
      few = omega (arith, cleared_count);
      small = λ i h. absurd (omega (arith, cleared_count));
      heads = λ b h. rw cleared_count (cleared_head b h);
      links = λ i h. absurd (omega (arith, cleared_count));
    };
    kept = rw cleared_count;
    merges = cleared_merges;
    others = cleared_others;
  }
