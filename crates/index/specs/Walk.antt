-- A walk over the entries of a list: what an entry adds to the words that are hashed, and the hash of a list by its length. Nothing here has to be believed.
use Rattle.std.specs.Prelude.{◌≡◌, refl, List, ◌∷◌, ℕ, suc, ◌<◌, ◌≤◌, ◌+◌, ◌-◌, ◌^◌, length}
use Rattle.std.proofs.Common.{sym, ◌∙◌, arith, div-add-mod'}
use Rattle.std.proofs.Math.Path.{ap}
use Rattle.words.specs.Numbers.{two}
use Rattle.words.specs.Hash.{hash_of, hash_from, mixed, empty_words, singleton_words, array_words}
use Rattle.words.specs.Hash.Laws.{hash_of_array}
use Rattle.arena.specs.Store.{Node, end, dollar, push, Store}
use Rattle.arena.specs.Kinds.{size}
use Rattle.layout.specs.Layout.{stop}
use Rattle.layout.specs.Scratch.{stack_parent, stack_state}
use Rattle.layout.specs.Listing.{listing}
use Rattle.layout.specs.Listing.Laws.{Entries, listing_stop, listing_more, stop_last}
use Rattle.index.specs.Hash.{parent_words, state_words, node_hash, hash}
use Rattle.index.specs.Records.{Stacked, stack_node, hash_in}
use Rattle.index.specs.Index.{Indexed}

-- ---- from place i of a list on

pub entries_from : (st pa : ℕ → ℕ) (at n c i : ℕ) → Entries st pa at n c → i ≤ n → Entries st pa (at + i) (n - i) c
entries_from st pa at n c i v h = record {
  fit = λ j a b. v.fit j (omega arith) (omega arith);
  older = λ j a b. v.older j (omega arith) (omega arith);
  rise = λ j a b. v.rise j (omega arith) (omega arith);
  dollar = λ j a b. v.dollar j (omega arith) (omega arith);
}

-- the list from place i on is entry i and the list from i + 1 on, whatever is made of both alike
turn {ℓ} : {X : Type ℓ} (g : ℕ → ℕ → X) (x : X → X) (at n i : ℕ) → i < n
    → ((k : ℕ) → n - i ≡ suc k → g (at + i) (suc k) ≡ x (g (suc (at + i)) k))
    → g (at + i) (n - i) ≡ x (g (at + (i + 1)) (n - (i + 1)))
turn g x at n i h step =
    let k : ℕ = n - (i + 1) in
    let a : n - i ≡ suc k = omega arith in
    let b : at + (i + 1) ≡ suc (at + i) = omega arith in
    ap (g (at + i)) a ∙ step k a ∙ ap (λ (j : ℕ). x (g j k)) (sym b)

module _ (f : ℕ → ℕ) (st pa : ℕ → ℕ) (i k c : ℕ) (v : Entries st pa i (suc k) c) where
  parents_step : parent_words f (listing st pa i (suc k)) ≡ f (pa i) ∷ parent_words f (listing st pa (suc i) k)
  unfolding parent_words listing
  parents_step =
      two (st i) stop
      (λ e. rw (listing_stop st pa i k e, stop_last st pa i k c v e, v.dollar i (omega arith) (omega arith) e))
      (λ n. rw (listing_more st pa i k n))

  states_step : state_words (listing st pa i (suc k)) ≡ st i ∷ state_words (listing st pa (suc i) k)
  unfolding state_words listing
  states_step =
      two (st i) stop
      (λ e. rw (listing_stop st pa i k e, stop_last st pa i k c v e, e))
      (λ n. rw (listing_more st pa i k n))

module _ (f : ℕ → ℕ) (z : List ℕ) (at n c i : ℕ) (v : Stacked z at n c) (h : i < n) where
  rest_entries : (k : ℕ) → n - i ≡ suc k → Entries (stack_state z) (stack_parent z) (at + i) (suc k) c
  rest_entries k e = rw e at (entries_from (stack_state z) (stack_parent z) at n c i v.entries (omega arith))

  -- one parent more is hashed, one state more
  pub parents_turn : (g : ℕ)
      → hash_from g (parent_words f (stack_node z (at + i) (n - i))) ≡ hash_from (mixed g (f (stack_parent z (at + i)))) (parent_words f (stack_node z (at + (i + 1)) (n - (i + 1))))
  unfolding hash_from
  parents_turn g = ap (hash_from g)
      (turn (λ j k. parent_words f (stack_node z j k)) (λ ws. f (stack_parent z (at + i)) ∷ ws) at n i h
      (λ k e. parents_step f (stack_state z) (stack_parent z) (at + i) k c (rest_entries k e)))

  pub states_turn : (g : ℕ)
      → hash_from g (state_words (stack_node z (at + i) (n - i))) ≡ hash_from (mixed g (stack_state z (at + i))) (state_words (stack_node z (at + (i + 1)) (n - (i + 1))))
  unfolding hash_from
  states_turn g = ap (hash_from g)
      (turn (λ j k. state_words (stack_node z j k)) (λ ws. stack_state z (at + i) ∷ ws) at n i h
      (λ k e. states_step f (stack_state z) (stack_parent z) (at + i) k c (rest_entries k e)))

-- where the walk begins and ends
pub walk_start : (z : List ℕ) (at n : ℕ) → stack_node z at n ≡ stack_node z (at + 0) (n - 0)
walk_start z at n =
    let a : at ≡ at + 0 = omega arith in
    let b : n ≡ n - 0 = omega arith in
    ap (λ (j : ℕ). stack_node z j n) a ∙ ap (stack_node z (at + 0)) b

pub parents_end : (f : ℕ → ℕ) (z : List ℕ) (at n i g : ℕ) → n ≤ i → hash_from g (parent_words f (stack_node z (at + i) (n - i))) ≡ g
unfolding hash_from parent_words listing
parents_end f z at n i g h = let a : n - i ≡ 0 = omega arith in rw a

pub states_end : (z : List ℕ) (at n i g : ℕ) → n ≤ i → hash_from g (state_words (stack_node z (at + i) (n - i))) ≡ g
unfolding hash_from state_words listing
states_end z at n i g h = let a : n - i ≡ 0 = omega arith in rw a

-- ---- the hash of a list by its length

parents_length : (f : ℕ → ℕ) (n : Node) → length (parent_words f n) ≡ size n
unfolding parent_words size
parents_length f end = refl
parents_length f dollar = refl
parents_length f (push r p n) = ap suc (parents_length f n)

states_length : (n : Node) → length (state_words n) ≡ size n
unfolding state_words size
states_length end = refl
states_length dollar = refl
states_length (push r p n) = ap suc (states_length n)

many : (f : ℕ → ℕ) (n : Node) → 2 ≤ size n → node_hash f n ≡ hash_of (array_words (parent_words f n) (state_words n))
unfolding node_hash size
many f end h = absurd (omega arith)
many f dollar h = absurd (omega arith)
many f (push r p end) h = absurd (omega arith)
many f (push r p dollar) h = refl
many f (push r p (push q o n)) h = refl

pub array_hash : (f : ℕ → ℕ) (n : Node) (k : ℕ) → size n ≡ k → 2 ≤ k
    → node_hash f n ≡ hash_from (mixed (hash_from (mixed (mixed 0 2) k) (parent_words f n)) k) (state_words n)
array_hash f n k e h =
    many f n (omega arith) ∙ hash_of_array (parent_words f n) (state_words n) ∙ rw (parents_length f n, states_length n, e)

pub single_hash : (f : ℕ → ℕ) (z : List ℕ) (at : ℕ) → (stack_state z at ≡ stop → ⊥) → node_hash f (stack_node z at 1) ≡ hash_of
    (singleton_words (f (stack_parent z at)) (stack_state z at))
unfolding node_hash listing
single_hash f z at n = rw (listing_more (stack_state z) (stack_parent z) at 0 n)

pub dollar_hash : (f : ℕ → ℕ) (z : List ℕ) (at : ℕ) → stack_state z at ≡ stop → node_hash f (stack_node z at 1) ≡ hash_of empty_words
unfolding node_hash
dollar_hash f z at e = rw (listing_stop (stack_state z) (stack_parent z) at 0 e)

-- ---- the index holds the hashes

pub hash_held : (s : Store) (z : List ℕ) → Indexed s z → (c : ℕ) → c < length s → hash_in z c ≡ hash s c
unfolding hash_in
hash_held s z v c h = rw (v.highs c h, v.lows c h) (div-add-mod' (hash s c) (2 ^ 32))
