-- A side of a merge: its parents are older, so that their merge is a smaller one, and the entry stack is long enough. Nothing here has to be believed.
use Rattle.std.specs.Prelude.{◌≡◌, List, ℕ, suc, ◌<◌, ◌≤◌, ◌+◌, length}
use Rattle.std.proofs.Common.{sym, ap, ◌∙◌, arith}
use Rattle.words.specs.Numbers.{two, below?}
use Rattle.arena.specs.Store.{node_at}
use Rattle.arena.proofs.Trees.{node_sound, node_rise, rise_le}
use Rattle.arena.specs.Kinds.{size}
use Rattle.arena.proofs.Placed.{Grew, grew_length}
use Rattle.index.specs.Layout.{kind, stop}
use Rattle.index.specs.Decode.{store_of}
use Rattle.encoding.specs.Encoded.{node_below}
use Rattle.interning.specs.Asks.{Known}
use Rattle.interning.specs.Live.{Live, live_sound}
use Rattle.arena.proofs.KindsLaws.{room_many}
use Rattle.work.proofs.Heads.{head_parent}
use Rattle.entries.specs.EntriesFrom.{rest, rest_rise, head_older}
use Rattle.entries.specs.Reading.{size_other}
use Rattle.entries.specs.Rest.{live_known}
use Rattle.merging.specs.Ends.{ends, ends_inner, ends_room, ends_le, grew_node_at}
use Rattle.merging.proofs.Walking.{Sorted}

module _ {w z : List ℕ} (v : Live w z) (c : ℕ) (h : c < length (store_of w)) where
  pub sorted_of : Sorted (store_of w) (node_at (store_of w) c)
  sorted_of = record { rise = node_rise (store_of w) v.good.sound c h; below = node_below stop (store_of w) v.good.below c h }

  -- the parent of an entry is older
  pub head_before : 0 < c → (i : ℕ) → head_parent (rest (node_at (store_of w) c) i) < c
  head_before p i =
      head_older (rest (node_at (store_of w) c) i) 0 c p
      (rest_rise (node_at (store_of w) c) i 0 c (node_sound (store_of w) v.good.sound c h).0)

  -- or is context 0 itself
  pub head_le : (i : ℕ) → head_parent (rest (node_at (store_of w) c) i) ≤ c
  head_le i =
      let r = rise_le 0 c (suc c) (node_at (store_of w) c) (omega arith) (node_sound (store_of w) v.good.sound c h).0 in
      omega (arith, head_older (rest (node_at (store_of w) c) i) 0 (suc c) (omega arith) (rest_rise (node_at (store_of w) c) i 0 (suc c) r))

  -- context 0 has one entry
  root_size : c ≡ 0 → size (node_at (store_of w) c) ≡ 1
  root_size e = size_other (live_known v c h) (λ k. omega (arith, (live_sound v).root.0, sym (ap (kind w) e) ∙ k))

  -- the entries of an array are pool entries; any other record has one entry
  pub size_ends : size (node_at (store_of w) c) ≤ ends (store_of w) c + 1
  size_ends =
      below? (size (node_at (store_of w) c)) 2
      (λ l. omega arith)
      (λ l. omega (arith, room_many (node_at (store_of w) c) l, ends_room (store_of w) c h))

  -- the entries that are taken before one, and the pool up to its parent
  pub head_ends : (i : ℕ) → i < size (node_at (store_of w) c) → ends (store_of w) (head_parent (rest (node_at (store_of w) c) i)) + i ≤ ends (store_of w) c
  head_ends i l =
      two c 0
      (λ e. let o : i ≡ 0 = omega (arith, root_size e) in omega (arith, ends_le (store_of w) c _ h (head_le i)))
      (λ n. let inner = ends_inner (store_of w) c _ h (head_before (omega arith) i) in
      below? (size (node_at (store_of w) c)) 2
      (λ s. let o : i ≡ 0 = omega arith in omega (arith, inner))
      (λ s. omega (arith, inner, room_many (node_at (store_of w) c) s)))

-- ---- after growth

module _ (w₀ : List ℕ) {w z : List ℕ} (c : ℕ) (h : c < length (store_of w₀)) (v : Live w z) (g : Grew (store_of w₀) (store_of w)) where
  pub later_below : c < length (store_of w)
  later_below = omega (arith, grew_length (store_of w₀) (store_of w) g)

  pub later_known : Known w c
  later_known = live_known v c later_below

  pub later_node : node_at (store_of w) c ≡ node_at (store_of w₀) c
  later_node = grew_node_at (store_of w₀) (store_of w) g c h
