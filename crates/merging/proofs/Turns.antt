-- The needs of `merge_entries`, place by place. Nothing here has to be believed.
use Rattle.std.specs.Prelude.{◌≡◌, Bool, List, length}
use Rattle.std.proofs.Common.{sym, ◌∙◌, arith, add-one}
use Rattle.std.proofs.Math.Path.{ap}
use Prim.Native.Nat.{ℕ, suc, ◌<◌, ◌≤◌, ◌+◌}
use Rattle.words.specs.Numbers.{two}
use Rattle.arena.specs.Store.{Node, node_at, tree}
use Rattle.arena.specs.Kinds.{size}
use Rattle.arena.specs.Place.{merge_s}
use Rattle.arena.proofs.Placed.{Grew, grew_length}
use Rattle.arena.proofs.Steps.{merge_holds}
use Rattle.index.specs.Layout.{most_contexts}
use Rattle.index.specs.Decode.{store_of}
use Rattle.index.specs.Writes.{put_entry}
use Rattle.interning.specs.Interned.{More, answered}
use Rattle.interning.specs.Asks.{Known}
use Rattle.work.specs.Counted.{State, Outcome, refused, and_then, interned, counted}
use Rattle.work.proofs.Heads.{head_state}
use Rattle.work.proofs.After.{Good, Went}
use Rattle.work.proofs.Exchange.{counted_even, walk_even}
use Rattle.work.proofs.Theorems.{came}
use Rattle.work.proofs.Walked.{weight}
use Rattle.words.specs.Refusals.{number}
use Rattle.words.specs.declared.refusals.Refusal.{Refusal}
use Rattle.entries.specs.EntriesFrom.{rest}
use Rattle.entries.specs.Reading.{IsEntry}
use Rattle.entries.specs.Rest.{Finishing, Extends, whole}
use Rattle.layout.specs.declared.entry.Entry.{Entry}
use Rattle.entries.specs.Laying.{ahead}
use Rattle.merging.specs.Ends.{ends, ends_grew}
use Rattle.merging.specs.Standing.{state_of, walked, Mergeable, Apart, Reached, Stuck, Ended, stuck_from}
use Rattle.merging.proofs.Walking.{Sorted, Walking, walking_start, take_left, take_both, no_inner, right_done, extended}
use Rattle.merging.proofs.Sides.{sorted_of, head_before, head_le, size_ends, head_ends, later_below, later_known, later_node}
use Rattle.std.specs.Prelude.{Result}
use Rattle.words.specs.declared.refusals.Refusal.{Refusal}
use Rattle.interning.specs.declared.numbered.Numbered.{Numbered}

-- a and b of w₀ are merged: i and j entries are taken, n are on the stack
abbrev pub Go : Bool → List ℕ → List ℕ → ℕ → ℕ → ℕ → List ℕ → List ℕ → ℕ → ℕ → ℕ → Type 0
Go m w₀ z₀ a b top w z i j n = Walking m (state_of w₀ z₀) (node_at (store_of w₀) a) (node_at (store_of w₀) b) top z₀ w z i j n

-- both sides have more, and these are their next entries
pub record Heads (w₀ : List ℕ) (a b i j : ℕ) (l r : Entry) : Type 0 where
  pub left_more : i < size (node_at (store_of w₀) a)
  pub right_more : j < size (node_at (store_of w₀) b)
  pub left : IsEntry (node_at (store_of w₀) a) i l
  pub right : IsEntry (node_at (store_of w₀) b) j r

pub heads_exchanged : {w₀ : List ℕ} {a b i j : ℕ} {l r : Entry} → Heads w₀ a b i j l r → Heads w₀ b a j i r l
heads_exchanged h = record { left_more = h.right_more; right_more = h.left_more; left = h.right; right = h.left }

pub sides_exchanged : {w z : List ℕ} {a b top : ℕ} → Apart w z a b top → Apart w z b a top
sides_exchanged f = record {
  sides = record {
    live = f.sides.live;
    cache = f.sides.cache;
    good = f.sides.good;
    left = f.sides.right;
    right = f.sides.left;
    room = omega (arith, f.sides.room);
  };
  differ = λ e. f.differ (sym e);
}

-- an inner merge is done: where the call stands then
module _ (m : Bool) (w z : List ℕ) (p q top : ℕ) (v : Mergeable w z p q top) (c : ℕ) (w₁ z₁ : List ℕ)
    (r : Reached z top (counted m (state_of w z) p q) c w₁ z₁) where
  went : Went ℕ (state_of w z) (suc (weight (tree (store_of w) p))) (merge_s m (store_of w) p q) c (state_of w₁ z₁)
  went = rw r.is at (came m (state_of w z) p q v.good v.left v.right)

  pub inner_good : Good (state_of w₁ z₁)
  inner_good = went.good

  pub inner_grew : Grew (store_of w) (store_of w₁)
  inner_grew = went.grew

  pub inner_known : c < length (store_of w₁)
  inner_known = rw went.is at (merge_holds m (store_of w) v.live.good.sound p q v.left v.right).known

module _ {w₀ z₀ : List ℕ} {a b top : ℕ} (f : Apart w₀ z₀ a b top) where
  abbrev v₀ : Mergeable w₀ z₀ a b top
  v₀ = f.sides

  abbrev A : Node
  A = node_at (store_of w₀) a

  abbrev B : Node
  B = node_at (store_of w₀) b

  sa : Sorted (store_of w₀) A
  sa = sorted_of v₀.live a v₀.left

  sb : Sorted (store_of w₀) B
  sb = sorted_of v₀.live b v₀.right

  -- all entries of both sides have a place on the stack
  pub fitting : top + size A + size B ≤ 4200
  fitting = omega (arith, v₀.room, size_ends v₀.live a v₀.left, size_ends v₀.live b v₀.right)

  pub go_start : (m : Bool) → Go m w₀ z₀ a b top w₀ z₀ 0 0 0
  go_start m = walking_start m w₀ z₀ A B top v₀.live v₀.cache v₀.good

  module _ {m : Bool} {w z : List ℕ} {i j n : ℕ} (g : Go m w₀ z₀ a b top w z i j n) where
    pub left_known : Known w a
    left_known = later_known w₀ a v₀.left g.live g.grew

    -- no more contexts were made than there can be
    pub few_made : (k : ℕ) → More w₀ k w → k ≤ most_contexts
    few_made k more = omega (arith, more, g.live.good.fits.0)

    pub left_is : node_at (store_of w) a ≡ A
    left_is = later_node w₀ a v₀.left g.live g.grew

    pub right_there : b < length (store_of w)
    right_there = later_below w₀ b v₀.right g.live g.grew

    -- the entries at hand are those of the sides where the loop stands; p and q are the sides' lengths
    pub heads_at : {l r : Entry} {p q : ℕ} → p ≡ size A → q ≡ size B → i < p → j < q → IsEntry (node_at (store_of w) a) i l → IsEntry (node_at (store_of w) b) j r
        → Heads w₀ a b i j l r
    heads_at ep eq hp hq l r = record {
      left_more = omega (arith, ep, hp);
      right_more = omega (arith, eq, hq);
      left = rw left_is at l;
      right = rw (later_node w₀ b v₀.right g.live g.grew) at r;
    }

    -- the right side is at its end: the rest of the left follows
    module _ (hi : i ≤ size A) (hj : size B ≤ j) (lj : j ≤ size B) where
      pub rest_left : Finishing w z a i top n
      rest_left = record {
        live = g.live;
        known = later_below w₀ a v₀.left g.live g.grew;
        within = rw left_is hi;
        entries = g.entries;
        under = λ l. rw left_is (g.under_left (rw left_is at l));
        room = rw left_is (omega (arith, fitting, g.few));
      }

      pub left_ended : (k : ℕ) → More w₀ k w → (r : Result Numbered Refusal) (w' u : List ℕ) → Extends w z top (whole w z a i top n) r w' u
          → Ended w₀ z₀ top (walked m (state_of w₀ z₀) a b) (answered r k) w' u
      left_ended k more r w' u x =
          rw (right_done sa sb g hj, ← left_is)
          (extended w₀ z₀ w z top k (ahead z top n (rest (node_at (store_of w) a) i)) g.grew g.between more g.cache g.live r w' u x)

    module _ {l r : Entry} (h : Heads w₀ a b i j l r) where
      -- there is a place on the stack for the next entry
      pub slot : top + n < 4200
      slot = omega (arith, fitting, g.few, h.left_more, h.right_more)

      -- the left entry is the lower one
      pub take_lower : l.state.0 < r.state.0 → (y : List ℕ) → y ≡ put_entry z (top + n) l.parent.0 l.state.0
          → Go m w₀ z₀ a b top w y (i + 1) j (n + 1)
      take_lower k y e =
          rw (add-one i, add-one n)
          (take_left sa sb g h.left_more h.right_more slot (omega (arith, h.left.1, h.right.1)) y (rw (h.left.0, h.left.1) at e))

      -- the states are equal: what stands beneath both is merged first

      pub parents_fall : l.parent.0 + r.parent.0 < a + b
      parents_fall =
          two a 0
          (λ e. omega (arith, h.left.0, h.right.0, head_le v₀.live a v₀.left i, head_before v₀.live b v₀.right (positive e) j))
          (λ d. omega (arith, h.left.0, h.right.0, head_before v₀.live a v₀.left (omega arith) i, head_le v₀.live b v₀.right j))
        where
          positive : a ≡ 0 → 0 < b
          positive e = two b 0 (λ q. absurd (f.differ (e ∙ sym q))) (λ d. omega arith)

      pub inner : Mergeable w z l.parent.0 r.parent.0 (top + n)
      inner =
          let s₀ = store_of w₀ in
          let bl : l.parent.0 < length s₀ = omega (arith, h.left.0, head_le v₀.live a v₀.left i, v₀.left) in
          let br : r.parent.0 < length s₀ = omega (arith, h.right.0, head_le v₀.live b v₀.right j, v₀.right) in
          let k : length s₀ ≤ length (store_of w) = grew_length s₀ (store_of w) g.grew in
          let el : ends s₀ l.parent.0 + i ≤ ends s₀ a = rw h.left.0 (head_ends v₀.live a v₀.left i h.left_more) in
          let er : ends s₀ r.parent.0 + j ≤ ends s₀ b = rw h.right.0 (head_ends v₀.live b v₀.right j h.right_more) in
          record {
            live = g.live;
            cache = g.cache;
            good = g.good;
            left = omega arith;
            right = omega arith;
            room = rw (ends_grew s₀ (store_of w) g.grew l.parent.0 bl, ends_grew s₀ (store_of w) g.grew r.parent.0 br)
                (omega (arith, v₀.room, g.few));
          }

      module _ (e : l.state.0 ≡ r.state.0) where
        same : head_state (rest A i) ≡ head_state (rest B j)
        same = sym h.left.1 ∙ e ∙ h.right.1

        pub take_equal : (c : ℕ) (w₁ z₁ : List ℕ) → Reached z (top + n) (counted m (state_of w z) l.parent.0 r.parent.0) c w₁ z₁
            → (y : List ℕ) → y ≡ put_entry z₁ (top + n) c l.state.0 → Go m w₀ z₀ a b top w₁ y (i + 1) (j + 1) (n + 1)
        take_equal c w₁ z₁ k y q =
            rw (add-one i, add-one j, add-one n)
            (take_both sa sb g h.left_more h.right_more slot same c w₁ z₁ (rw (h.left.0, h.right.0) at k)
            (inner_good m w z _ _ (top + n) inner c w₁ z₁ k) (inner_grew m w z _ _ (top + n) inner c w₁ z₁ k)
            (inner_known m w z _ _ (top + n) inner c w₁ z₁ k) y (rw h.left.1 at q))

        -- refused inside, and so refused
        pub inner_refused : (x : Refusal) (w₁ z₁ : List ℕ)
            → (counted m (state_of w z) l.parent.0 r.parent.0 ≡ refused (number x)) × Stuck w w₁ z₁
            → (walked m (state_of w₀ z₀) a b ≡ refused (number x)) × Stuck w₀ w₁ z₁
        unfolding and_then
        inner_refused x w₁ z₁ k = (
          ap (λ (o : Outcome Node). and_then Node ℕ o interned)
              (no_inner sa sb g h.left_more h.right_more slot same (number x) (rw (h.left.0, h.right.0) at k.0)),
          stuck_from w₀ w w₁ z₁ g.grew k.1,
        )

-- exchanged, the outcome is the same
pub walked_even : (m : Bool) (t : State) (a b : ℕ) → walked m t a b ≡ walked m t b a
walked_even m t a b =
    ap (λ (o : Outcome Node). and_then Node ℕ o interned) (walk_even (counted m) (counted_even m) t (node_at t.store a) (node_at t.store b))
