-- Entries on the stack compared with a record, word by word: they are the same exactly if the words are. Nothing here has to be believed.
use Rattle.std.proofs.Math.Path.{◌≡◌, sym}
use Rattle.std.specs.Prelude.{refl, true, Bool, ◌&&◌, List, ℕ, ◌<◌, ◌+◌, eqb}
use Rattle.std.proofs.Common.{ap, ◌∙◌}
use Rattle.std.proofs.Math.Bool.{false}
use native.Mathlib.Omega.{arith}
use borrow.Author.Tests.{eq-eqb, ne_eqb}
use Rattle.words.specs.Numbers.{two}
use Rattle.arena.specs.Store.{Node, end, dollar, push, same}
use Rattle.arena.proofs.Trees.{same?, same_self}
use Rattle.arena.specs.Kinds.{size}
use Rattle.layout.specs.Layout.{kind, first, second, parent, state}
use Rattle.layout.specs.Scratch.{stack_parent, stack_state}
use Rattle.layout.specs.Listing.{listing}
use Rattle.layout.specs.Listing.Laws.{Entries, entries_le, listing_agree, listing_inj, listing_size, listing_more}
use Rattle.layout.specs.Decode.{node_in}
use Rattle.layout.specs.Decode.Laws.{node_zero, node_one, node_many}
use Rattle.index.specs.Records.{Records, Stacked, Proper, stack_node}

pub same_equal : (a b : Node) → a ≡ b → same a b ≡ true
same_equal a b e = rw e (same_self b)

pub same_other : (a b : Node) → (a ≡ b → ⊥) → same a b ≡ false
same_other a b n = same? a b (λ e. absurd (n e)) (λ e. e)

size_other : (a b : Node) → (size a ≡ size b → ⊥) → same a b ≡ false
size_other a b n = same_other a b (λ e. n (ap size e))

-- ---- n pool entries

module _ (w z : List ℕ) (from at n : ℕ) (v : Entries (state w) (parent w) from n 512) (u : Stacked z at n 512) where
  pub entries_same : ((j : ℕ) → j < n → (state w (from + j) ≡ stack_state z (at + j)) × (parent w (from + j) ≡ stack_parent z (at + j)))
      → same (stack_node z at n) (listing (state w) (parent w) from n) ≡ true
  entries_same h =
      same_equal _ _ (sym (listing_agree (state w) (parent w) (stack_state z) (stack_parent z) from at n h))

  agree_at : (j : ℕ) → j < n → stack_node z at n ≡ listing (state w) (parent w) from n → (state w (from + j) ≡ stack_state z (at + j)) × (parent w (from + j) ≡ stack_parent z (at + j))
  agree_at j h e = listing_inj (state w) (parent w) (stack_state z) (stack_parent z) from at n 512 512 v u.entries (sym e) j h

  pub state_other : (j : ℕ) → j < n → (state w (from + j) ≡ stack_state z (at + j) → ⊥) → same (stack_node z at n) (listing (state w) (parent w) from n) ≡ false
  state_other j h d = same_other _ _ (λ e. d (agree_at j h e).0)

  pub parent_other : (j : ℕ) → j < n → (parent w (from + j) ≡ stack_parent z (at + j) → ⊥) → same (stack_node z at n) (listing (state w) (parent w) from n) ≡ false
  parent_other j h d = same_other _ _ (λ e. d (agree_at j h e).1)

  pub entry_other : (j : ℕ) → j < n → (state w (from + j) ≡ stack_state z (at + j) → parent w (from + j) ≡ stack_parent z (at + j) → ⊥)
      → same (stack_node z at n) (listing (state w) (parent w) from n) ≡ false
  entry_other j h d = same_other _ _ (λ e. let a = agree_at j h e in d a.0 a.1)

-- ---- one entry

pub single_node : (z : List ℕ) (at : ℕ) → Proper z at 1 → stack_node z at 1 ≡ push (stack_state z at) (stack_parent z at) end
unfolding listing
single_node z at p = listing_more (stack_state z) (stack_parent z) at 0 (λ e. omega (arith, p.not_dollar refl))

module _ (z : List ℕ) (at : ℕ) (p : Proper z at 1) (a b : ℕ) where
  pub single_parent_other : (a ≡ stack_parent z at → ⊥) → same (stack_node z at 1) (push b a end) ≡ false
  single_parent_other d = same_other _ _ (λ e. d (sym (parents (sym (single_node z at p) ∙ e))))
    where
      parents : push (stack_state z at) (stack_parent z at) end ≡ push b a end → stack_parent z at ≡ a
      parents e = cc

  pub single_state : a ≡ stack_parent z at → eqb b (stack_state z at) ≡ same (stack_node z at 1) (push b a end)
  unfolding same
  single_state e =
      two b (stack_state z at)
      (λ s. eq-eqb b _ s ∙ sym (same_equal _ _ (single_node z at p ∙ rw (s, e))))
      (λ n. ne_eqb b _ n ∙ sym (same_other _ _ (λ q. n (states (sym q ∙ single_node z at p)))))
    where
      states : push b a end ≡ push (stack_state z at) (stack_parent z at) end → b ≡ stack_state z at
      states e = cc

  pub single_entry : (eqb a (stack_parent z at) && eqb b (stack_state z at)) ≡ same (stack_node z at 1) (push b a end)
  single_entry =
      two a (stack_parent z at)
      (λ e. ap (λ (t : Bool). t && eqb b (stack_state z at)) (eq-eqb a _ e) ∙ single_state e)
      (λ n. ap (λ (t : Bool). t && eqb b (stack_state z at)) (ne_eqb a _ n) ∙ sym (single_parent_other n))

-- ---- a record by its kind

module _ (w z : List ℕ) (count i at n : ℕ) (r : Records w count) (h : i < count) (u : Stacked z at n count) (p : Proper z at n) where
  stack_size : size (stack_node z at n) ≡ n
  stack_size = listing_size (stack_state z) (stack_parent z) at n count u.entries

  pub stacked_512 : Stacked z at n 512
  stacked_512 = record { sized = u.sized; room = u.room; entries = entries_le (stack_state z) (stack_parent z) at n count 512 r.few u.entries }

  pub pool_512 : kind w i ≡ 2 → Entries (state w) (parent w) (first w i) (second w i) 512
  pool_512 k = entries_le (state w) (parent w) (first w i) (second w i) i 512 (omega (arith, r.few)) (r.entries i h k)

  pub kind_one_other : kind w i ≡ 1 → (n ≡ 1 → ⊥) → same (stack_node z at n) (node_in w i) ≡ false
  unfolding size
  kind_one_other k d = rw (node_one w i k) (size_other _ _ (λ e. d (sym stack_size ∙ e)))

  pub kind_two_other : kind w i ≡ 2 → (second w i ≡ n → ⊥) → same (stack_node z at n) (node_in w i) ≡ false
  kind_two_other k d =
      rw (node_many w i k)
      (size_other _ _ (λ e. d (sym (listing_size (state w) (parent w) (first w i) (second w i) i (r.entries i h k)) ∙ sym e ∙ stack_size)))

  -- context 0 is `$` alone, and the stack has something else
  pub kind_zero_other : (kind w i ≡ 1 → ⊥) → (kind w i ≡ 2 → ⊥) → same (stack_node z at n) (node_in w i) ≡ false
  unfolding size
  kind_zero_other a b =
      rw (node_zero w i (omega (arith, r.kinds i h)))
      (two n 1 (λ e. rw e (rw (single_node z at (rw e at p)) refl_other)) (λ d. size_other _ _ (λ e. d (sym stack_size ∙ e))))
    where
      refl_other : same (push (stack_state z at) (stack_parent z at) end) dollar ≡ false
      refl_other = same_other _ _ (λ e. absurd (no e))
        where
          no : push (stack_state z at) (stack_parent z at) end ≡ dollar → ⊥
          no e = let q : ◌≡◌ {A = ℕ} 0 1 = cc in omega arith
