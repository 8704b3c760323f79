-- Chains of results by bucket, newest first: a result that a link skips is in another bucket, and so has another key.
-- Nothing here has to be believed.
use Rattle.std.specs.Prelude.{◌≡◌, refl, Bool, ◌&&◌, List, ◌∷◌, ℕ, zero, suc, ◌<◌, ◌≤◌, ◌/◌, ◌%◌}
use Rattle.std.proofs.Common.{sym, ap, ◌∙◌, arith, eq-eqb, ne_eqb}
use Rattle.std.specs.Bool.{beq}
use Rattle.std.proofs.Math.Dec.{eqb}
use Rattle.words.specs.Numbers.{two}
use Rattle.work.specs.Store.{Found, at}
use Rattle.work.specs.Counted.{Result, recall}
use Rattle.work.proofs.CountedLaws.{result, test}
use Rattle.work.proofs.Kept.{key_is}
use Rattle.work.proofs.Hits.{recall_new}
use Rattle.work.proofs.KeptWords.{bit, packed, result_in, read_back, kept_in}
use Rattle.cache.specs.Cache.{result_word, key_of, bucket_of, bucket_at, newest}

-- ---- the newest of a bucket

module _ (z : List ℕ) (n b : ℕ) where
  pub newest_here : bucket_at z n ≡ b → newest z (suc n) b ≡ suc n
  unfolding newest
  newest_here e = rw (eq-eqb _ b e, newest)

  pub newest_older : (bucket_at z n ≡ b → ⊥) → newest z (suc n) b ≡ newest z n b
  unfolding newest
  newest_older e = rw (ne_eqb _ b e, newest)

pub newest_le : (z : List ℕ) (n b : ℕ) → newest z n b ≤ n
unfolding newest
newest_le z zero b = omega arith
newest_le z (suc n) b =
    two (bucket_at z n) b (λ e. rw (newest_here z n b e) (omega arith)) (λ d. rw (newest_older z n b d) (omega (arith, newest_le z n b)))

pub newest_bucket : (z : List ℕ) (n b i : ℕ) → newest z n b ≡ suc i → (i < n) × (bucket_at z i ≡ b)
unfolding newest
newest_bucket z zero b i q = absurd (omega arith)
newest_bucket z (suc n) b i q =
    two (bucket_at z n) b
    (λ e. let j : i ≡ n = omega (arith, newest_here z n b e) in (omega arith, rw j e))
    (λ d. let below = newest_bucket z n b i (sym (newest_older z n b d) ∙ q) in (omega (arith, below.0), below.1))

-- words beside the first n results do not matter
pub newest_frame : (z u : List ℕ) (n b : ℕ) → ((i : ℕ) → i < n → result_word u i ≡ result_word z i) → newest u n b ≡ newest z n b
unfolding newest
newest_frame z u zero b same = refl
newest_frame z u (suc n) b same =
    let here : bucket_at u n ≡ bucket_at z n = ap (λ (x : ℕ). bucket_of (x / 512)) (same n (omega arith)) in
    let below : newest u n b ≡ newest z n b = newest_frame z u n b (λ i h. same i (omega arith)) in
    two (bucket_at z n) b
    (λ e. newest_here u n b (here ∙ e) ∙ sym (newest_here z n b e))
    (λ d. newest_older u n b (λ e. d (sym here ∙ e)) ∙ below ∙ sym (newest_older z n b d))

-- ---- a word and its key

key_of_word : (x : ℕ) (m : Bool) → x < 268435456 → m ≡ eqb (x / 134217728) 1 → x / 512 ≡ key_of m (x / 262144 % 512) (x / 512 % 512)
unfolding bit
key_of_word x m h e =
    two (x / 134217728) 1
    (λ one. rw (e, eq-eqb (x / 134217728) 1 one) (omega arith))
    (λ other. rw (e, ne_eqb (x / 134217728) 1 other) (omega arith))

module _ (m : Bool) (a b x : ℕ) (k : List Result) where
  -- a word with the key answers
  pub word_hit : a < 512 → b < 512 → x / 512 ≡ key_of m a b → recall m a b (result_in x ∷ k) ≡ at (x % 512)
  word_hit h i e =
      let p : x ≡ packed m a b (x % 512) = omega arith in
      let r : result_in x ≡ result m a b (x % 512) = ap result_in p ∙ read_back m a b (x % 512) h i (omega arith) in
      ap (λ (y : Result). recall m a b (y ∷ k)) r ∙ recall_new (result m a b (x % 512)) k

  -- one with another does not
  pub word_past : x < 268435456 → (x / 512 ≡ key_of m a b → ⊥) → recall m a b (result_in x ∷ k) ≡ recall m a b k
  unfolding recall result_in
  word_past h other =
      test (λ (f : Found). f ≡ recall m a b k)
      (beq m (result_in x).kind && (eqb a (result_in x).smaller && eqb b (result_in x).larger)) _ _
      (λ q. let i = key_is m a b (result_in x) q in absurd (other (rw (i.1, i.2) (key_of_word x m h i.0))))
      (λ q. refl)

-- ---- results of other buckets are passed over

pub skip : (z : List ℕ) (m : Bool) (a b n : ℕ) → ((i : ℕ) → i < n → result_word z i < 268435456)
    → recall m a b (kept_in 2048 z n) ≡ recall m a b (kept_in 2048 z (newest z n (bucket_of (key_of m a b))))
unfolding kept_in newest result_word
skip z m a b zero small = refl
skip z m a b (suc n) small =
    let c : ℕ = bucket_of (key_of m a b) in
    two (bucket_at z n) c
    (λ e. rw (newest_here z n c e))
    (λ d. rw (newest_older z n c d)
    (word_past m a b (result_word z n) (kept_in 2048 z n) (small n (omega arith)) (λ e. d (ap bucket_of e))
    ∙ skip z m a b n (λ i h. small i (omega arith))))
