-- To believe: what each query leaves, as a function of what came in: the checks of document 01's table in its order, then what its paragraph "Queries" says.
use Rattle.std.specs.Prelude.{true, false, List, [], ℕ, zero, suc, eqb}
use Rattle.words.specs.Names.{empty_mark}
use Rattle.arena.specs.Merge.{is_mark}
use Rattle.arena.specs.Store.{Node, end, dollar, push, Store, tree, node_at}
use Rattle.arena.specs.Stands.{stands}
use Rattle.arena.specs.Kinds.{size}
use Rattle.layout.specs.Decode.{store_of}
use Rattle.store.specs.Calls.{Reply, context, count, state, holds, none, Left, asked}

-- of a context: how many entries it has, is it exactly the set of the empty stack, is the empty stack in its set;
-- of its entry at an index, from 0 on: the state, the parent
pub data Question : Type 0 where
  entry_count is_empty has_empty_path : Question
  entry_state entry_parent : ℕ → Question

-- what f says of the state and the parent of the entry at an index; a `$` has the empty mark and 0; past the end there is none
unfoldable pub entry_at : Node → ℕ → (ℕ → ℕ → Reply) → Reply
entry_at end i f = none
entry_at dollar zero f = f empty_mark 0
entry_at dollar (suc i) f = none
entry_at (push r p n) zero f = f r p
entry_at (push r p n) (suc i) f = entry_at n i f

-- of the context c of a store
abbrev pub answer_to : Question → Store → ℕ → Reply
answer_to entry_count s c = count (size (node_at s c))
answer_to is_empty s c = holds (is_mark (tree s c))
answer_to has_empty_path s c = holds (stands s c [])
answer_to (entry_state i) s c = entry_at (node_at s c) i (λ r p. state r)
-- "`parent` of context 0 is none at every index, yet the parent of an array's `$` is 0"
answer_to (entry_parent i) s c = elim (eqb c 0) [ true ↦ none | false ↦ entry_at (node_at s c) i (λ r p. context p) ]

-- w is the store's words, z the scratch's, c the context's number
abbrev pub query_call : Question → List ℕ → List ℕ → ℕ → Left
query_call q w z c = asked w z c (answer_to q (store_of w) c)
