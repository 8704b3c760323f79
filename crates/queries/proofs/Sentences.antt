-- Document 01's paragraph "Queries", sentence by sentence, of a sound store: what the definitions of the calls come to. Nothing here has to be believed.
use Rattle.std.specs.Prelude.{◌≡◌, refl, List, ℕ, zero, suc, ◌<◌, ◌≤◌, ◌+◌, length}
use Rattle.std.proofs.Common.{ap, ◌∙◌, arith}
use Rattle.words.specs.Names.{empty_mark}
use Rattle.words.specs.Compact.Laws.{expanded_mark}
use Rattle.arena.specs.Store.{Node, end, dollar, push, node_at}
use Rattle.arena.specs.Kinds.{size}
use Rattle.layout.specs.Layout.{store_words, stop, kind, first, second, state as stateWord}
use Rattle.layout.specs.Decode.{store_of}
use Rattle.layout.specs.Sound.{SoundWords}
use Rattle.words.specs.Numbers.{two}
use Rattle.store.specs.Reads.{kind?, kind_zero}
use Rattle.store.specs.Calls.{context, state, none}
use Rattle.queries.specs.Queries.{entry_at}
use Rattle.queries.specs.Listed.{state_at, parent_of, state_past}
use Rattle.store.specs.Asks.{Known}
use Rattle.queries.proofs.EntryWords.{size_many, size_other, many_some, state_many, state_zero, parent_zero, parent_many, parent_at_past}

module _ (w : List ℕ) (l : length w ≡ store_words) (v : SoundWords w) where
  root : Known w 0
  root = record { sized = l; sound = v; below = omega (arith, v.counted.0) }

  root_kind : (k : ℕ) → 0 < k → kind w 0 ≡ k → ⊥
  root_kind k h e = omega (arith, v.root.0)

  -- "Context 0 has one entry."
  pub root_one : size (node_at (store_of w) 0) ≡ 1
  root_one = size_other root (root_kind 2 (omega arith))

  -- "`return_state` of a `$`, context 0's at 0 included, is the empty mark"
  pub root_state : state_at (node_at (store_of w) 0) 0 ≡ state empty_mark
  root_state = state_zero root 0 (root_kind 2 (omega arith)) (root_kind 1 (omega arith)) refl

  -- "`parent` of context 0 is none at every index"
  pub root_parent : (i : ℕ) → parent_of (store_of w) 0 i ≡ none
  root_parent i = parent_zero root i v.root.0

-- "of one other entry, a singleton; of two or more, an array": what the kind word of a record's entries is
module _ (w : List ℕ) (c : ℕ) (k : Known w c) where
  pub one_is_singleton : 0 < c → size (node_at (store_of w) c) ≡ 1 → kind w c ≡ 1
  one_is_singleton h e =
      kind? w k.sound c k.below
      (λ z. absurd (omega (arith, kind_zero w k.sound c k.below z)))
      (λ o. o)
      (λ t. absurd (omega (arith, size_many k t, many_some k t)))

  pub more_are_array : 2 ≤ size (node_at (store_of w) c) → kind w c ≡ 2
  more_are_array h = two (kind w c) 2 (λ e. e) (λ n. absurd (omega (arith, size_other k n)))

module _ (w : List ℕ) (c : ℕ) (k : Known w c) (i : ℕ) where
  -- an array's `$`: the empty mark, "yet the parent of an array's `$` is 0"
  module _ (e : kind w c ≡ 2) (h : i < second w c) (d : stateWord w (first w c + i) ≡ stop) where
    pub dollar_state : state_at (node_at (store_of w) c) i ≡ state empty_mark
    dollar_state = state_many k i e h ∙ ap state (expanded_mark (stateWord w (first w c + i)) d)

    pub dollar_parent : parent_of (store_of w) c i ≡ context 0
    dollar_parent = parent_many k i e h ∙ ap context (k.sound.dollar c i k.below e h d)

  -- "An index past the end is none."
  pub past_state : size (node_at (store_of w) c) ≤ i → state_at (node_at (store_of w) c) i ≡ none
  past_state h = state_past (node_at (store_of w) c) i h

  pub past_parent : size (node_at (store_of w) c) ≤ i → parent_of (store_of w) c i ≡ none
  past_parent h = parent_at_past k i h

-- and only such an index: every entry has a state
pub state_some : (n : Node) (i : ℕ) → i < size n → state_at n i ≡ none → ⊥
unfolding size entry_at
state_some end i h e = omega arith
state_some dollar zero h e = let z : ◌≡◌ {A = ℕ} 0 1 = cc in omega arith
state_some dollar (suc i) h e = omega arith
state_some (push r p n) zero h e = let z : ◌≡◌ {A = ℕ} 0 1 = cc in omega arith
state_some (push r p n) (suc i) h e = state_some n i (omega arith) e
