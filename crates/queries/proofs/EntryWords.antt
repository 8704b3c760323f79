-- A known context of a sound store: what its record's words say of its entries, by kind. Nothing here has to be believed.
use Rattle.std.specs.Prelude.{◌≡◌, true, false, List, [], ℕ, suc, ◌<◌, ◌≤◌, ◌+◌, ◌-◌, eqb, length}
use Rattle.std.proofs.Math.Path.{sym, ap}
use Rattle.std.proofs.Common.{◌∙◌, arith, eq-eqb, ne_eqb}
use Rattle.words.specs.Names.{empty_mark}
use Rattle.words.specs.Compact.{expanded}
use Rattle.words.specs.Compact.Laws.{expanded_state}
use Rattle.words.specs.Numbers.{two}
use Rattle.arena.specs.Forest.{mem}
use Rattle.arena.specs.Merge.{is_mark}
use Rattle.arena.specs.Store.{Node, end, dollar, push, tree, node_at}
use Rattle.arena.proofs.Soundness.{Sound}
use Rattle.arena.specs.Kinds.{size}
use Rattle.arena.proofs.Identity.{tree_root, not_root, entries_stand, record_stands}
use Rattle.layout.specs.Layout.{stop, count, kind, first, second, parent, state}
use Rattle.layout.specs.Listing.Laws.{Entries, listing_size}
use Rattle.layout.specs.Listing.{listing}
use Rattle.layout.specs.Decode.{node_in, store_of}
use Rattle.layout.specs.Decode.Laws.{store_length, store_node, node_zero, node_one, node_many}
use Rattle.store.specs.Reads.{kind?, kind_zero, single_reads, array_entries, array_fits}
use Rattle.store.specs.Decoded.{store_sound}
use Rattle.store.specs.Asks.{Known}
use Rattle.store.specs.Calls.{context, none, state as shows}
use Rattle.queries.specs.Queries.{entry_at, answer_to}
use Rattle.queries.specs.Listed.{state_at, parent_at, parent_of, state_past, parent_past, state_listing, parent_listing, empty_listing}

module _ {w : List ℕ} {c : ℕ} (k : Known w c) where
  pub few : c < 512
  few = omega (arith, k.below, k.sound.counted.1)

  good : Sound (store_of w)
  good = store_sound w k.sound (count w) (omega arith)

  inside : c < length (store_of w)
  inside = omega (arith, k.below, store_length w (count w))

  node : node_at (store_of w) c ≡ node_in w c
  node = store_node w (count w) c k.below

  -- the record, by its kind

  at_zero : kind w c ≡ 0 → node_at (store_of w) c ≡ dollar
  at_zero e = node ∙ node_zero w c e

  at_one : kind w c ≡ 1 → node_at (store_of w) c ≡ push (second w c) (first w c) end
  at_one e = node ∙ node_one w c e

  at_many : kind w c ≡ 2 → node_at (store_of w) c ≡ listing (state w) (parent w) (first w c) (second w c)
  at_many e = node ∙ node_many w c e

  entries : kind w c ≡ 2 → Entries (state w) (parent w) (first w c) (second w c) c
  entries e = array_entries w k.sound c k.below e

  -- kind 2: its entries are in the pool, and there is a last one
  pub many_within : kind w c ≡ 2 → first w c + second w c ≤ 2048
  many_within e = omega (arith, array_fits w k.sound c k.below e, k.sound.counted.2)

  pub many_some : kind w c ≡ 2 → 2 ≤ second w c
  many_some e = k.sound.long c k.below e

  pub is_root : (kind w c ≡ 1 → ⊥) → (kind w c ≡ 2 → ⊥) → kind w c ≡ 0
  is_root n m = kind? w k.sound c k.below (λ e. e) (λ e. absurd (n e)) (λ e. absurd (m e))

  -- how many entries

  pub size_many : kind w c ≡ 2 → size (node_at (store_of w) c) ≡ second w c
  size_many e = ap size (at_many e) ∙ listing_size (state w) (parent w) (first w c) (second w c) c (entries e)

  pub size_other : (kind w c ≡ 2 → ⊥) → size (node_at (store_of w) c) ≡ 1
  unfolding size
  size_other n = kind? w k.sound c k.below (λ e. ap size (at_zero e)) (λ e. ap size (at_one e)) (λ e. absurd (n e))

  -- exactly the set of the empty stack: context 0 alone

  pub empty_is : c ≡ 0 → is_mark (tree (store_of w) c) ≡ true
  unfolding is_mark
  empty_is e = ap (λ (x : ℕ). is_mark (tree (store_of w) x)) e ∙ ap is_mark (tree_root (store_of w) good (omega (arith, inside)))

  pub empty_not : (c ≡ 0 → ⊥) → is_mark (tree (store_of w) c) ≡ false
  empty_not n = not_root (store_of w) good c inside (omega arith)

  pub empty_test : is_mark (tree (store_of w) c) ≡ eqb c 0
  empty_test = two c 0 (λ e. empty_is e ∙ sym (eq-eqb c 0 e)) (λ n. empty_not n ∙ sym (ne_eqb c 0 n))

  -- the empty stack is in the set

  stands_node : (n : Node) → node_at (store_of w) c ≡ n → mem (tree (store_of w) c) [] ≡ entries_stand (store_of w) n []
  stands_node n e = record_stands (store_of w) good c inside [] ∙ ap (λ (x : Node). entries_stand (store_of w) x []) e

  pub path_many : kind w c ≡ 2 → mem (tree (store_of w) c) [] ≡ eqb (state w (first w c + second w c - 1)) stop
  path_many e =
      let more : suc (second w c - 1) ≡ second w c = omega (arith, many_some e) in
      let last : first w c + (second w c - 1) ≡ first w c + second w c - 1 = omega (arith, many_some e) in
      stands_node _ (at_many e ∙ ap (listing (state w) (parent w) (first w c)) (sym more)) ∙
      empty_listing (store_of w) (state w) (parent w) (first w c) (second w c - 1) c (rw more (entries e)) ∙
      ap (λ (x : ℕ). eqb (state w x) stop) last

  pub path_other : (kind w c ≡ 2 → ⊥) → mem (tree (store_of w) c) [] ≡ eqb (kind w c) 0
  unfolding entries_stand
  path_other n =
      kind? w k.sound c k.below
      (λ e. stands_node _ (at_zero e) ∙ sym (eq-eqb (kind w c) 0 e))
      (λ e. stands_node _ (at_one e) ∙ sym (ne_eqb (kind w c) 0 (λ z. omega arith)))
      (λ e. absurd (n e))

  module _ (i : ℕ) where
    -- the state at an index

    pub state_many : kind w c ≡ 2 → i < second w c → state_at (node_at (store_of w) c) i ≡ shows (expanded (state w (first w c + i)))
    state_many e h =
        ap (λ (n : Node). state_at n i) (at_many e) ∙ state_listing (state w) (parent w) (first w c) (second w c) c i (entries e) h

    pub state_many_past : kind w c ≡ 2 → second w c ≤ i → state_at (node_at (store_of w) c) i ≡ none
    state_many_past e h = state_past (node_at (store_of w) c) i (omega (arith, size_many e))

    pub state_other_past : (kind w c ≡ 2 → ⊥) → (i ≡ 0 → ⊥) → state_at (node_at (store_of w) c) i ≡ none
    state_other_past n h = state_past (node_at (store_of w) c) i (omega (arith, size_other n))

    pub state_one : kind w c ≡ 1 → i ≡ 0 → state_at (node_at (store_of w) c) i ≡ shows (expanded (second w c))
    unfolding entry_at
    state_one e h =
        rw (at_one e, h) (ap shows (sym (expanded_state (second w c) (λ q. omega (arith, (single_reads w k.sound c k.below e).1)))))

    pub state_zero : (kind w c ≡ 2 → ⊥) → (kind w c ≡ 1 → ⊥) → i ≡ 0 → state_at (node_at (store_of w) c) i ≡ shows empty_mark
    unfolding entry_at
    state_zero n m h = kind? w k.sound c k.below (λ e. rw (at_zero e, h)) (λ e. absurd (m e)) (λ e. absurd (n e))

    -- the parent at an index

    pub parent_zero : kind w c ≡ 0 → parent_of (store_of w) c i ≡ none
    parent_zero e = rw (eq-eqb c 0 (kind_zero w k.sound c k.below e), answer_to)

    above : (kind w c ≡ 0 → ⊥) → parent_of (store_of w) c i ≡ parent_at (node_at (store_of w) c) i
    above n = rw (ne_eqb c 0 (λ z. n (ap (kind w) z ∙ k.sound.root.0)), answer_to)

    pub parent_many : kind w c ≡ 2 → i < second w c → parent_of (store_of w) c i ≡ context (parent w (first w c + i))
    parent_many e h =
        above (λ z. omega arith) ∙
        ap (λ (n : Node). parent_at n i) (at_many e) ∙ parent_listing (state w) (parent w) (first w c) (second w c) c i (entries e) h

    -- past the end
    pub parent_at_past : size (node_at (store_of w) c) ≤ i → parent_of (store_of w) c i ≡ none
    parent_at_past h = two (kind w c) 0 parent_zero (λ n. above n ∙ parent_past (node_at (store_of w) c) i h)

    pub parent_many_past : kind w c ≡ 2 → second w c ≤ i → parent_of (store_of w) c i ≡ none
    parent_many_past e h = parent_at_past (omega (arith, size_many e))

    pub parent_one : (kind w c ≡ 0 → ⊥) → (kind w c ≡ 2 → ⊥) → i ≡ 0 → parent_of (store_of w) c i ≡ context (first w c)
    unfolding entry_at
    parent_one n m h =
        above n ∙
        kind? w k.sound c k.below
        (λ e. absurd (n e))
        (λ e. rw (at_one e, h))
        (λ e. absurd (m e))

    pub parent_other_past : (kind w c ≡ 2 → ⊥) → (i ≡ 0 → ⊥) → parent_of (store_of w) c i ≡ none
    parent_other_past m h = parent_at_past (omega (arith, size_other m))

-- ---- an array, as it was read: its first place, its length, and what stood in the pool

module _ {w : List ℕ} {c : ℕ} (k : Known w c) (e : kind w c ≡ 2) (from n : ℕ) (a : from ≡ first w c) (b : n ≡ second w c) where
  pub bounds_read : (2 ≤ n) × (from + n ≤ 2048)
  bounds_read = (omega (arith, many_some k e), omega (arith, many_within k e))

  pub last_read : (held : ℕ) → held ≡ state w (from + n - 1) → eqb held stop ≡ mem (tree (store_of w) c) []
  last_read held h = rw (h, a, b) (sym (path_many k e))

  module _ (i : ℕ) where
    pub state_read : i < n → (held shown : ℕ) → held ≡ state w (from + i) → shown ≡ expanded held → shows shown ≡ state_at (node_at (store_of w) c) i
    state_read h held shown f g = rw (g, f, a) (sym (state_many k i e (omega arith)))

    pub parent_read : i < n → (held : ℕ) → held ≡ parent w (from + i) → context held ≡ parent_of (store_of w) c i
    parent_read h held f = rw (f, a) (sym (parent_many k i e (omega arith)))
