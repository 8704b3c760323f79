-- The interner's hash of a context. Nothing rests on which hash it is: equal records have equal hashes, and that is all that is used.
-- Nothing here has to be believed.
use Rattle.std.specs.Prelude.{◌≡◌, refl, true, false, List, [], ◌∷◌, eqb, length}
use Prim.Native.Nat.{ℕ, ◌<◌, ◌/◌, ◌^◌}
use Rattle.std.proofs.Common.{arith, eq-eqb, ne_eqb}
use Rattle.words.specs.Hash.{hash_of, empty_words, singleton_words, array_words}
use Rattle.words.specs.Hash.Laws.{hash_of_below}
use Rattle.arena.specs.Store.{Node, end, dollar, push, Store}
use Rattle.arena.proofs.Soundness.{Rise}
use Rattle.layout.specs.Layout.{stop}

-- the hashes of the entries' parents, given those of contexts by f, and the entries' states; `$` has parent 0
unfoldable pub parent_words : (ℕ → ℕ) → Node → List ℕ
parent_words f end = []
parent_words f dollar = f 0 ∷ []
parent_words f (push r p n) = f p ∷ parent_words f n

unfoldable pub state_words : Node → List ℕ
state_words end = []
state_words dollar = stop ∷ []
state_words (push r p n) = r ∷ state_words n

-- the hash of a record: document 01's words of its kind
unfoldable pub node_hash : (ℕ → ℕ) → Node → ℕ
node_hash f end = hash_of empty_words
node_hash f dollar = hash_of empty_words
node_hash f (push r p end) = hash_of (singleton_words (f p) r)
node_hash f (push r p dollar) = hash_of (array_words (parent_words f (push r p dollar)) (state_words (push r p dollar)))
node_hash f (push r p (push q o n)) = hash_of (array_words (parent_words f (push r p (push q o n))) (state_words (push r p (push q o n))))

-- the hash of the context c of a store
unfoldable pub hash : Store → ℕ → ℕ
hash [] c = 0
hash (n ∷ s) c = elim (eqb c (length s)) [ true ↦ node_hash (hash s) n | false ↦ hash s c ]

-- its bucket: the top 9 bits
unfoldable pub bucket_of : ℕ → ℕ
bucket_of h = h / 2 ^ 55

-- ---- laws

module _ (n : Node) (s : Store) (c : ℕ) where
  pub hash_new : c ≡ length s → hash (n ∷ s) c ≡ node_hash (hash s) n
  unfolding hash
  hash_new h = rw (eq-eqb c (length s) h, hash)

  pub hash_old : c < length s → hash (n ∷ s) c ≡ hash s c
  unfolding hash
  hash_old h = rw (ne_eqb c (length s) (omega arith), hash)

pub node_hash_below : (f : ℕ → ℕ) (n : Node) → node_hash f n < 2 ^ 64
unfolding node_hash
node_hash_below f end = hash_of_below _
node_hash_below f dollar = hash_of_below _
node_hash_below f (push r p end) = hash_of_below _
node_hash_below f (push r p dollar) = hash_of_below _
node_hash_below f (push r p (push q o n)) = hash_of_below _

parents_agree : (f g : ℕ → ℕ) (lo c : ℕ) (n : Node) → Rise lo c n → ((p : ℕ) → p < c → f p ≡ g p) → (f 0 ≡ g 0) → parent_words f n ≡ parent_words g n
unfolding parent_words
parents_agree f g lo c end v h z = refl
parents_agree f g lo c dollar v h z = rw z
parents_agree f g lo c (push r p n) v h z = rw (h p v.1, parents_agree f g (Prim.Native.Nat.suc r) c n v.2 h z)

-- a record's hash goes by the hashes of its parents
pub node_hash_agree : (f g : ℕ → ℕ) (lo c : ℕ) (n : Node) → Rise lo c n → ((p : ℕ) → p < c → f p ≡ g p) → node_hash f n ≡ node_hash g n
unfolding node_hash
node_hash_agree f g lo c end v h = refl
node_hash_agree f g lo c dollar v h = refl
node_hash_agree f g lo c (push r p end) v h = rw (h p v.1)
node_hash_agree f g lo c (push r p dollar) v h = rw (parents_agree f g lo c (push r p dollar) v h (h 0 (omega (arith, v.1))))
node_hash_agree f g lo c (push r p (push q o n)) v h = rw (parents_agree f g lo c (push r p (push q o n)) v h (h 0 (omega (arith, v.1))))
