-- What the words of a known context say of its entries, by kind. Nothing here has to be believed.
use Rattle.std.specs.Prelude.{◌≡◌, refl, List, ℕ, ◌<◌, ◌+◌}
use Rattle.std.proofs.Common.{sym, ◌∙◌, arith}
use Rattle.std.proofs.Math.Path.{ap}
use Rattle.arena.specs.Store.{Node, end, dollar, push, node_at}
use Rattle.arena.specs.Kinds.{size}
use Rattle.layout.specs.Layout.{stop, count, kind, first, second, parent, state}
use Rattle.layout.specs.Listing.{listing}
use Rattle.layout.specs.Listing.Laws.{Entries, listing_size}
use Rattle.layout.specs.Decode.{node_in, store_of}
use Rattle.layout.specs.Decode.Laws.{store_node, node_zero, node_one, node_many}
use Rattle.work.specs.Reads.{kind?, array_entries, array_fits}
use Rattle.interning.specs.Asks.{Known}
use Rattle.work.proofs.Heads.{head_state, head_parent}
use Rattle.entries.specs.EntriesFrom.{rest, entry_listing}
use Rattle.layout.specs.declared.entry.Entry.{Entry}

-- the entry of a record at an index
abbrev pub IsEntry : Node → ℕ → Entry → Type 0
IsEntry n i e = (e.parent.0 ≡ head_parent (rest n i)) × (e.state.0 ≡ head_state (rest n i))

module _ {w : List ℕ} {c : ℕ} (k : Known w c) where
  pub few : c < 512
  few = omega (arith, k.below, k.sound.counted.1)

  node : node_at (store_of w) c ≡ node_in w c
  node = store_node w (count w) c k.below

  at_zero : kind w c ≡ 0 → node_at (store_of w) c ≡ dollar
  at_zero e = node ∙ node_zero w c e

  at_one : kind w c ≡ 1 → node_at (store_of w) c ≡ push (second w c) (first w c) end
  at_one e = node ∙ node_one w c e

  at_many : kind w c ≡ 2 → node_at (store_of w) c ≡ listing (state w) (parent w) (first w c) (second w c)
  at_many e = node ∙ node_many w c e

  listed : kind w c ≡ 2 → Entries (state w) (parent w) (first w c) (second w c) c
  listed e = array_entries w k.sound c k.below e

  -- how many entries

  pub size_many : kind w c ≡ 2 → size (node_at (store_of w) c) ≡ second w c
  size_many e = ap size (at_many e) ∙ listing_size (state w) (parent w) (first w c) (second w c) c (listed e)

  pub size_other : (kind w c ≡ 2 → ⊥) → size (node_at (store_of w) c) ≡ 1
  unfolding size
  size_other n = kind? w k.sound c k.below (λ e. ap size (at_zero e)) (λ e. ap size (at_one e)) (λ e. absurd (n e))

  pub is_many : (kind w c ≡ 0 → ⊥) → (kind w c ≡ 1 → ⊥) → kind w c ≡ 2
  is_many n m = kind? w k.sound c k.below (λ e. absurd (n e)) (λ e. absurd (m e)) (λ e. e)

  pub is_root : (kind w c ≡ 1 → ⊥) → (kind w c ≡ 2 → ⊥) → kind w c ≡ 0
  is_root n m = kind? w k.sound c k.below (λ e. e) (λ e. absurd (n e)) (λ e. absurd (m e))

  -- the entry at an index

  module _ (i : ℕ) (h : i < size (node_at (store_of w) c)) where
    pub entry_zero : kind w c ≡ 0 → (0 ≡ head_parent (rest (node_at (store_of w) c) i)) × (stop ≡ head_state (rest (node_at (store_of w) c) i))
    unfolding head_parent head_state rest
    entry_zero e = let z : i ≡ 0 = omega (arith, size_other (λ q. omega arith)) in rw (at_zero e, z) (refl, refl)

    pub entry_one : kind w c ≡ 1
        → (first w c ≡ head_parent (rest (node_at (store_of w) c) i)) × (second w c ≡ head_state (rest (node_at (store_of w) c) i))
    unfolding head_parent head_state rest
    entry_one e = let z : i ≡ 0 = omega (arith, size_other (λ q. omega arith)) in rw (at_one e, z) (refl, refl)

    -- an array's entry is in the pool
    pub many_place : kind w c ≡ 2 → first w c + i < 2048
    many_place e = omega (arith, size_many e, array_fits w k.sound c k.below e, k.sound.counted.2)

    pub entry_many : kind w c ≡ 2
        → (parent w (first w c + i) ≡ head_parent (rest (node_at (store_of w) c) i)) × (state w (first w c + i) ≡ head_state (rest (node_at (store_of w) c) i))
    entry_many e =
        let v = entry_listing (state w) (parent w) c (first w c) (second w c) i (listed e) (rw (size_many e) at h) in
        rw (at_many e) (sym v.1, sym v.0)
