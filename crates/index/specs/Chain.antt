-- Chains of contexts by bucket, newest first: every context that a link skips is in another bucket, and equal records share a bucket.
-- Nothing here has to be believed.
use Rattle.std.specs.Prelude.{◌≡◌, refl, true, false, [], ◌∷◌, ℕ, zero, suc, ◌<◌, ◌≤◌, ◌-◌, eqb, length}
use Rattle.std.proofs.Common.{sym, ap, ◌∙◌, arith, eq-eqb, ne_eqb}
use Rattle.words.specs.Numbers.{two}
use Rattle.arena.specs.Store.{Node, Store, node_at, same, find, at, nowhere}
use Rattle.arena.proofs.Soundness.{Sound}
use Rattle.arena.proofs.Trees.{same?, same_true, find_new, find_old}
use Rattle.index.specs.Hash.{node_hash, hash, bucket_of, hash_new, hash_old, node_hash_agree}
use Rattle.index.specs.Older.{older, older_all, older_part, older_length, older_next, older_sound}

-- number + 1 of the newest context of a bucket, 0 for none
unfoldable pub newest : Store → ℕ → ℕ
newest [] b = 0
newest (n ∷ s) b = elim (eqb (bucket_of (node_hash (hash s) n)) b) [ true ↦ suc (length s) | false ↦ newest s b ]

module _ (n : Node) (s : Store) (b : ℕ) where
  pub newest_here : bucket_of (node_hash (hash s) n) ≡ b → newest (n ∷ s) b ≡ suc (length s)
  unfolding newest
  newest_here e = rw (eq-eqb _ b e, newest)

  pub newest_older : (bucket_of (node_hash (hash s) n) ≡ b → ⊥) → newest (n ∷ s) b ≡ newest s b
  unfolding newest
  newest_older e = rw (ne_eqb _ b e, newest)

-- what a lookup of n in bucket b knows at a link k: none is left, or the next to compare is context k - 1
abbrev pub At : Store → Node → ℕ → ℕ → Type 0
At s n b zero = find n s ≡ nowhere
At s n b (suc i) = (i < length s) × (find n s ≡ find n (older s (suc i))) × (bucket_of (hash s i) ≡ b)

-- f gives the hashes of the store's contexts
abbrev pub Hashes : (ℕ → ℕ) → Store → Type 0
Hashes f s = (p : ℕ) → p < length s → f p ≡ hash s p

-- a record in another bucket is another record
other_bucket : (f : ℕ → ℕ) (n x : Node) (s : Store) → Sound (x ∷ s) → Hashes f (x ∷ s) → (bucket_of (node_hash (hash s) x) ≡ bucket_of (node_hash f n) → ⊥) → same n x ≡ false
other_bucket f n x s w h d =
    same? n x
    (λ e. absurd (d (rw e (ap bucket_of (node_hash_agree (hash s) f 0 (length s) x w.0 (λ p l. sym (h p (omega arith) ∙ hash_old x s p l)))))))
    (λ e. e)

-- the lookup's facts, carried over a newer record that is another
at_newer : (n x : Node) (s : Store) (b k : ℕ) → same n x ≡ false → At s n b k → At (x ∷ s) n b k
at_newer n x s b zero e a = find_old n x s e ∙ a
at_newer n x s b (suc i) e a = (
  omega (arith, a.0),
  find_old n x s e ∙ a.1 ∙ ap (find n) (sym (older_part x s (suc i) a.0)),
  ap bucket_of (hash_old x s i a.0) ∙ a.2,
)

-- the newest of the bucket is where a lookup starts
pub at_newest : (f : ℕ → ℕ) (n : Node) (s : Store) → Sound s → Hashes f s → At s n (bucket_of (node_hash f n)) (newest s (bucket_of (node_hash f n)))
unfolding find newest
at_newest f n [] w h = refl
at_newest f n (x ∷ s) w h =
    let b = bucket_of (node_hash f n) in
    let hs : Hashes f s = λ p l. h p (omega arith) ∙ hash_old x s p l in
    two (bucket_of (node_hash (hash s) x)) b
    (λ e. rw (newest_here x s b e)
    (omega arith, ap (find n) (sym (older_all (x ∷ s) (suc (length s)) (omega arith))), ap bucket_of (hash_new x s (length s) refl) ∙ e))
    (λ d. rw (newest_older x s b d) (at_newer n x s b (newest s b) (other_bucket f n x s w h d) (at_newest f n s w.3 hs)))

-- ---- a step of the lookup, at context i

module _ (s : Store) (n : Node) (b i : ℕ) (a : At s n b (suc i)) where
  pub at_hit : same n (node_at s i) ≡ true → find n s ≡ at i
  at_hit e =
      a.1 ∙ ap (find n) (older_next s i a.0) ∙ find_new n (node_at s i) (older s i) (same_true n (node_at s i) e) ∙ ap at (older_length s i (omega (arith, a.0)))

  pub at_past : same n (node_at s i) ≡ false → find n s ≡ find n (older s i)
  at_past e = a.1 ∙ ap (find n) (older_next s i a.0) ∙ find_old n (node_at s i) (older s i) e

-- ---- the next link

older_older : (s : Store) (i j : ℕ) → j ≤ i → i ≤ length s → older (older s i) j ≡ older s j
older_older [] i j h k = rw (older_all [] i (omega arith))
older_older (x ∷ s) i j h k =
    two i (suc (length s))
    (λ e. rw (older_all (x ∷ s) i (omega arith)))
    (λ d. rw (older_part x s i (omega arith), older_part x s j (omega arith)) (older_older s i j h (omega arith)))

hash_older : (s : Store) (i p : ℕ) → p < i → i ≤ length s → hash (older s i) p ≡ hash s p
hash_older [] i p h k = absurd (omega arith)
hash_older (x ∷ s) i p h k =
    two i (suc (length s))
    (λ e. rw (older_all (x ∷ s) i (omega arith)))
    (λ d. rw (older_part x s i (omega arith)) (hash_older s i p h (omega arith) ∙ sym (hash_old x s p (omega arith))))

pub newest_le : (s : Store) (b : ℕ) → newest s b ≤ length s
unfolding newest
newest_le [] b = omega arith
newest_le (n ∷ s) b =
    two (bucket_of (node_hash (hash s) n)) b
    (λ e. rw (newest_here n s b e) (omega arith))
    (λ d. rw (newest_older n s b d) (omega (arith, newest_le s b)))

-- what is known of the oldest i contexts is known of the store, where the newer ones are other records
at_lift : (s : Store) (n : Node) (b i k : ℕ) → i ≤ length s → find n s ≡ find n (older s i) → At (older s i) n b k → At s n b k
at_lift s n b i zero h e a = e ∙ a
at_lift s n b i (suc j) h e a =
    let l : j < i = rw (older_length s i h) at a.0 in
    (omega arith, e ∙ a.1 ∙ ap (find n) (older_older s i (suc j) l h), ap bucket_of (sym (hash_older s i j l h)) ∙ a.2)

-- context i is another record: the link from it leads on
pub at_next : (n : Node) (s : Store) → Sound s → (i : ℕ) → At s n (bucket_of (node_hash (hash s) n)) (suc i) → same n (node_at s i) ≡ false
    → At s n (bucket_of (node_hash (hash s) n)) (newest (older s i) (bucket_of (node_hash (hash s) n)))
at_next n s w i a e =
    let b = bucket_of (node_hash (hash s) n) in
    let h : i ≤ length s = omega (arith, a.0) in
    let l : length (older s i) ≡ i = older_length s i h in
    at_lift s n b i (newest (older s i) b) h (at_past s n b i a e)
    (at_newest (hash s) n (older s i) (older_sound s i w h) (λ p k. sym (hash_older s i p (omega arith) h)))

-- a link that is not 0 leads to the context one below it
pub at_pred : (s : Store) (n : Node) (b k : ℕ) → (k ≡ 0 → ⊥) → At s n b k → At s n b (suc (k - 1))
at_pred s n b k h a = let e : k ≡ suc (k - 1) = omega arith in rw e at a

pub at_none : (s : Store) (n : Node) (b k : ℕ) → k ≡ 0 → At s n b k → find n s ≡ nowhere
at_none s n b k e a = rw e at a
