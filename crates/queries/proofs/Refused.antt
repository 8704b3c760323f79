-- Document 01's refusals of the queries: each exactly when it is due, and with nothing changed. Nothing here has to be believed.
use Rattle.std.specs.Prelude.{◌≡◌, refl, ◌↔◌, Bool, true, false, List, ℕ, zero, suc, eqb}
use Rattle.words.specs.Numbers.{never}
use Rattle.arena.specs.Store.{Node, end, dollar, push, Store, node_at, at}
use Rattle.layout.specs.Decode.{store_of}
use Rattle.store.specs.Checks.{order, due}
use Rattle.store.specs.Checks.Laws.{in_order}
use Rattle.store.specs.Calls.{Reply, refused, context, state, none, refusal, ask_checks}
use Rattle.store.specs.Asks.{asked_refused_exactly, asked_refused_leaves}
use Rattle.queries.specs.Queries.{Question, entry_count, is_empty, has_empty_path, entry_state, entry_parent, entry_at, answer_to, query_call}

-- ---- no answer is a refusal

entry_answers : (f : ℕ → ℕ → Reply) (n : ℕ) → ((r p : ℕ) → f r p ≡ refused n → ⊥) → (k : Node) (i : ℕ) → entry_at k i f ≡ refused n → ⊥
unfolding entry_at
entry_answers f n h end i e = never (cc)
entry_answers f n h dollar zero e = h _ 0 e
entry_answers f n h dollar (suc i) e = never (cc)
entry_answers f n h (push r p k) zero e = h r p e
entry_answers f n h (push r p k) (suc i) e = entry_answers f n h k i e

answers : (q : Question) (s : Store) (c n : ℕ) → answer_to q s c ≡ refused n → ⊥
answers entry_count s c n e = never (cc)
answers is_empty s c n e = never (cc)
answers has_empty_path s c n e = never (cc)
answers (entry_state i) s c n e = entry_answers (λ r p. state r) n (λ r p g. never (cc)) (node_at s c) i e
answers (entry_parent i) s c n e = go (eqb c 0) e
  where
    go : (b : Bool) → elim b [ true ↦ none | false ↦ entry_at (node_at s c) i (λ r p. context p) ] ≡ refused n → ⊥
    go true g = never (cc)
    go false g = entry_answers (λ r p. context p) n (λ r p h. never (cc)) (node_at s c) i g

-- ---- refused n exactly when that is due, and then all is as it was but the scratch

module _ (q : Question) (w z : List ℕ) (c : ℕ) where
  pub query_refused_exactly : (n : ℕ) → ((query_call q w z c).reply ≡ refused n) ↔ (due (ask_checks w z c) ≡ at n)
  query_refused_exactly = asked_refused_exactly w z c (answer_to q (store_of w) c) (answers q (store_of w) c)

  pub query_refused_leaves : (n : ℕ) → (query_call q w z c).reply ≡ refused n → query_call q w z c ≡ refusal w z n
  query_refused_leaves = asked_refused_leaves w z c (answer_to q (store_of w) c) (answers q (store_of w) c)

pub ask_in_order : (w z : List ℕ) (c : ℕ) → in_order order (ask_checks w z c) ≡ true
unfolding in_order
ask_in_order w z c = refl
