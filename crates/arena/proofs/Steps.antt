-- The merge of two contexts by number: the steps that merge code follows. Nothing here has to be believed.
use Rattle.std.specs.Prelude.{◌≡◌, Bool, ℕ, suc, ◌<◌, length}
use Rattle.std.proofs.Math.Path.{refl, ap}
use Rattle.std.proofs.Common.{sym, arith}
use Rattle.std.proofs.Math.Bool.{true, false}
use Rattle.stacks.specs.Forest.{Forest, over}
use Rattle.stacks.specs.Merge.{merge_e, merge_t}
use Rattle.stacks.proofs.MergeLaws.{merge_less, merge_equal, merge_greater, merge_e_none, mark_merge_t, merge_t_mark, merge_t_full, merge_t_plain}
use Rattle.stacks.proofs.Algebra.{idem, comm, canon_merge, some_merge}
use Rattle.arena.specs.Store.{Node, end, dollar, push, Store, tree_of, tree, node_at}
use Rattle.arena.proofs.Soundness.{Rise, Sound}
use Rattle.arena.proofs.Trees.{tree_node, tree_canon}
use Rattle.arena.proofs.Identity.{tree_root, not_root}
use Rattle.arena.specs.Place.{intern, place_e, place, merge_s}
use Rattle.arena.proofs.PlaceLaws.{ahead, place_e_over}
use Rattle.arena.proofs.Placed.{place_e_there, place_there, Grew, grew_node, place_grew, Holds, place_holds}

-- the entries of the merge of two records' entries, with the store that has what stands beneath
unfoldable pub merge_n : Bool → Store → Node → Node → Node × Store
merge_n m s n k = place_e s (merge_e m (tree_of (tree s) n) (tree_of (tree s) k))

-- ---- a merge by the numbers of its sides

module _ (m : Bool) (s : Store) (w : Sound s) (a b : ℕ) (h : a < length s) (k : b < length s) where
  pub merge_holds : Holds (merge_s m s a b).1 (merge_s m s a b).0 (merge_t m (tree s a) (tree s b))
  unfolding merge_s
  merge_holds =
      let u = tree_canon s w a h in
      place_holds s _ w (canon_merge m _ _ u.1 (tree_canon s w b k).1) (some_merge m _ (tree s b) u.0)

  pub merge_grew : Grew s (merge_s m s a b).1
  unfolding merge_s
  merge_grew = place_grew s _

  -- a context that stands for the merge is the answer, and nothing is made: all that a cache needs
  pub merge_known : (c : ℕ) → c < length s → tree s c ≡ merge_t m (tree s a) (tree s b) → merge_s m s a b ≡ (c, s)
  unfolding merge_s
  merge_known c l e = place_there s w c _ l e

  pub merge_same : a ≡ b → merge_s m s a b ≡ (a, s)
  merge_same e = merge_known a h (sym (rw (← e) (idem m (tree s a) (tree_canon s w a h).1)))

  pub merge_sides : merge_s m s a b ≡ merge_s m s b a
  unfolding merge_s
  merge_sides = ap (place s) (comm m _ _ (tree_canon s w a h).1 (tree_canon s w b k).1)

  -- where no side swallows the other, the merge is that of the records' entries
  pub merge_nodes : (m ≡ true → (0 < a) × (0 < b)) → merge_s m s a b ≡ (let x = merge_n m s (node_at s a) (node_at s b) in intern x.1 x.0)
  unfolding merge_s merge_n place
  merge_nodes n = rw (go m n, tree_node s w a h, tree_node s w b k)
    where
      go : (m : Bool) → (m ≡ true → (0 < a) × (0 < b)) → merge_t m (tree s a) (tree s b) ≡ merge_e m (tree s a) (tree s b)
      go false n = merge_t_full _ _
      go true n = merge_t_plain true _ _ (not_root s w a h (n refl).0) (not_root s w b k (n refl).1)

module _ (s : Store) (w : Sound s) (a b : ℕ) (h : a < length s) (k : b < length s) where
  pub merge_root_left : a ≡ 0 → merge_s true s a b ≡ (0, s)
  merge_root_left j = merge_known true s w a b h k 0 (omega arith) (rw (j, tree_root s w (omega arith)) (sym (mark_merge_t _)))

  pub merge_root_right : b ≡ 0 → merge_s true s a b ≡ (0, s)
  merge_root_right j = merge_known true s w a b h k 0 (omega arith) (rw (j, tree_root s w (omega arith)) (sym (merge_t_mark _)))

-- ---- a merge of entries, an entry at a time

module _ (m : Bool) (s : Store) (w : Sound s) where
  pub entries_end_left : (lo : ℕ) (k : Node) → Rise lo (length s) k → merge_n m s end k ≡ (k, s)
  unfolding merge_n merge_e tree_of
  entries_end_left lo k v = place_e_there s w _ k lo v refl

  pub entries_end_right : (lo : ℕ) (n : Node) → Rise lo (length s) n → merge_n m s n end ≡ (n, s)
  unfolding merge_n tree_of
  entries_end_right lo n v = place_e_there s w _ n lo v (sym (merge_e_none m _))

  pub entries_dollars : merge_n m s dollar dollar ≡ (dollar, s)
  unfolding merge_n merge_e tree_of place_e
  entries_dollars = refl

  place_e_ahead : (r p : ℕ) (T : Forest) → p < length s → place_e s (over r (tree s p) T) ≡ ahead r p (place_e s T)
  place_e_ahead r p T h = rw (place_e_over, place_there s w p (tree s p) h refl)

  module _ (r p : ℕ) (n : Node) (q o : ℕ) (k : Node) (lo lo' : ℕ) (v : Rise lo (length s) (push r p n)) (v' : Rise lo' (length s) (push q o k)) where
    pub entries_less : r < q → merge_n m s (push r p n) (push q o k) ≡ ahead r p (merge_n m s n (push q o k))
    unfolding merge_n tree_of
    entries_less h = rw (merge_less m r (tree s p) _ q (tree s o) _ h) (place_e_ahead r p _ v.1)

    pub entries_greater : q < r → merge_n m s (push r p n) (push q o k) ≡ ahead q o (merge_n m s (push r p n) k)
    unfolding merge_n tree_of
    entries_greater h = rw (merge_greater m r (tree s p) _ q (tree s o) _ h) (place_e_ahead q o _ v'.1)

    pub entries_equal : r ≡ q → merge_n m s (push r p n) (push q o k) ≡ (let c = merge_s m s p o in ahead r c.0 (merge_n m c.1 n k))
    unfolding merge_n merge_s tree_of
    entries_equal h =
        let g = place_grew s (merge_t m (tree s p) (tree s o)) in
        rw (merge_equal m r (tree s p) _ q (tree s o) _ h, place_e_over, grew_node s _ g (suc r) n v.2, grew_node s _ g (suc q) k v'.2)

  pub entries_push_dollar : (r p : ℕ) (n : Node) (lo : ℕ) → Rise lo (length s) (push r p n) → merge_n m s (push r p n) dollar ≡ ahead r p (merge_n m s n dollar)
  unfolding merge_n merge_e tree_of
  entries_push_dollar r p n lo v = place_e_ahead r p _ v.1

  pub entries_dollar_push : (q o : ℕ) (k : Node) (lo : ℕ) → Rise lo (length s) (push q o k) → merge_n m s dollar (push q o k) ≡ ahead q o (merge_n m s dollar k)
  unfolding merge_n merge_e tree_of
  entries_dollar_push q o k lo v = place_e_ahead q o _ v.1
