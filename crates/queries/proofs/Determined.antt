-- Two outcomes of a query that satisfy its contract for the same input are equal: the answers, case and value, and every word.
-- Nothing here has to be believed.
use Rattle.std.specs.Prelude.{◌≡◌, refl, Bool, List, ℕ, Option, Some, None, Result, Ok, Err}
use Rattle.std.proofs.Common.{ap}
use Rattle.store.proofs.Told.{number_tells}
use Rattle.store.specs.Calls.{Reply, Left, leaves}
use Rattle.store.specs.Calls.Laws.{determined}
use Rattle.words.specs.declared.names.ContextId.{ContextId}
use Rattle.words.specs.declared.names.ReturnState.{ReturnState}
use Rattle.words.specs.declared.refusals.Refusal.{Refusal}
use Rattle.queries.specs.Queries.{entry_count, is_empty, has_empty_path, entry_state, entry_parent, query_call}
use Rattle.queries.specs.Answers.{counted, decided, state_found, parent_found}

-- ---- a reply tells the answer

counted_tells : (a b : Result ℕ Refusal) → counted a ≡ counted b → a ≡ b
counted_tells (Ok n) (Ok m) e = cc
counted_tells (Ok n) (Err g) e = cc
counted_tells (Err f) (Ok m) e = cc
counted_tells (Err f) (Err g) e = ap Err (number_tells f g e)

decided_tells : (a b : Result Bool Refusal) → decided a ≡ decided b → a ≡ b
decided_tells (Ok n) (Ok m) e = cc
decided_tells (Ok n) (Err g) e = cc
decided_tells (Err f) (Ok m) e = cc
decided_tells (Err f) (Err g) e = ap Err (number_tells f g e)

state_tells : (a b : Result (Option ReturnState) Refusal) → state_found a ≡ state_found b → a ≡ b
state_tells (Ok (Some s)) (Ok (Some t)) e =
    let n : s.0 ≡ t.0 = cc in
    ap (λ (k : ℕ). Ok (Some (record { 0 = k }))) n
state_tells (Ok (Some s)) (Ok None) e = cc
state_tells (Ok (Some s)) (Err g) e = cc
state_tells (Ok None) (Ok (Some t)) e = cc
state_tells (Ok None) (Ok None) e = refl
state_tells (Ok None) (Err g) e = cc
state_tells (Err f) (Ok (Some t)) e = cc
state_tells (Err f) (Ok None) e = cc
state_tells (Err f) (Err g) e = ap Err (number_tells f g e)

parent_tells : (a b : Result (Option ContextId) Refusal) → parent_found a ≡ parent_found b → a ≡ b
parent_tells (Ok (Some p)) (Ok (Some q)) e =
    let n : p.0 ≡ q.0 = cc in
    ap (λ (k : ℕ). Ok (Some (record { 0 = k }))) n
parent_tells (Ok (Some p)) (Ok None) e = cc
parent_tells (Ok (Some p)) (Err g) e = cc
parent_tells (Ok None) (Ok (Some q)) e = cc
parent_tells (Ok None) (Ok None) e = refl
parent_tells (Ok None) (Err g) e = cc
parent_tells (Err f) (Ok (Some q)) e = cc
parent_tells (Err f) (Ok None) e = cc
parent_tells (Err f) (Err g) e = ap Err (number_tells f g e)

-- ---- the five contracts. A query is lent the store to read, so its words after are those at entry

same_left : (x y : Reply) (w u v : List ℕ) (l : Left) → leaves x w u ≡ l → leaves y w v ≡ l → (x ≡ y) × (u ≡ v)
same_left x y w u v l p q =
    let e = determined (leaves x w u) (leaves y w v) l p q in
    (ap (λ (o : Left). o.reply) e, ap (λ (o : Left). o.scratch) e)

module _ (w z : List ℕ) (c : ℕ) (u v : List ℕ) where
  pub len_determined : (a b : Result ℕ Refusal) → leaves (counted a) w u ≡ query_call entry_count w z c → leaves (counted b) w v ≡ query_call entry_count w z c → (a ≡ b) × (u ≡ v)
  len_determined a b p q = let s = same_left (counted a) (counted b) w u v (query_call entry_count w z c) p q in (counted_tells a b s.0, s.1)

  pub is_empty_determined : (a b : Result Bool Refusal) → leaves (decided a) w u ≡ query_call is_empty w z c → leaves (decided b) w v ≡ query_call is_empty w z c
      → (a ≡ b) × (u ≡ v)
  is_empty_determined a b p q =
      let s = same_left (decided a) (decided b) w u v (query_call is_empty w z c) p q in (decided_tells a b s.0, s.1)

  pub has_empty_path_determined : (a b : Result Bool Refusal) → leaves (decided a) w u ≡ query_call has_empty_path w z c → leaves (decided b) w v ≡ query_call has_empty_path w z c
      → (a ≡ b) × (u ≡ v)
  has_empty_path_determined a b p q =
      let s = same_left (decided a) (decided b) w u v (query_call has_empty_path w z c) p q in (decided_tells a b s.0, s.1)

  module _ (i : ℕ) where
    pub return_state_determined : (a b : Result (Option ReturnState) Refusal) → leaves (state_found a) w u ≡ query_call (entry_state i) w z c → leaves (state_found b) w v ≡ query_call (entry_state i) w z c
        → (a ≡ b) × (u ≡ v)
    return_state_determined a b p q =
        let s = same_left (state_found a) (state_found b) w u v (query_call (entry_state i) w z c) p q in (state_tells a b s.0, s.1)

    pub parent_determined : (a b : Result (Option ContextId) Refusal) → leaves (parent_found a) w u ≡ query_call (entry_parent i) w z c → leaves (parent_found b) w v ≡ query_call (entry_parent i) w z c
        → (a ≡ b) × (u ≡ v)
    parent_determined a b p q =
        let s = same_left (parent_found a) (parent_found b) w u v (query_call (entry_parent i) w z c) p q in (parent_tells a b s.0, s.1)
