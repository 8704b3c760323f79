-- The walk over two records' entries comes to their merge, if the inner merges do. Nothing here has to be believed.
use Rattle.std.specs.Prelude.{◌≡◌, Bool, length}
use Prim.Native.Nat.{ℕ, suc, ◌<◌, ◌≤◌, ◌+◌}
use Rattle.std.proofs.Common.{arith}
use Rattle.stacks.specs.Numbers.{three}
use Rattle.stacks.specs.Forest.{Forest, none, mark, over}
use Rattle.arena.specs.Store.{Node, end, dollar, push, Store, tree_of, tree}
use Rattle.arena.proofs.Soundness.{Rise}
use Rattle.arena.proofs.Trees.{rise_le}
use Rattle.arena.specs.Place.{merge_s}
use Rattle.arena.proofs.PlaceLaws.{ahead}
use Rattle.arena.proofs.Placed.{Grew, grew_refl, grew_length, grew_node, place_e_grew}
use Rattle.arena.proofs.Steps.{merge_n, entries_end_left, entries_end_right, entries_dollars}
use Rattle.arena.proofs.Steps.{entries_less, entries_greater, entries_equal, entries_push_dollar, entries_dollar_push}
use Rattle.work.specs.Counted.{State, Merge, walk}
use Rattle.work.proofs.CountedLaws.{walk_less, walk_greater, walk_equal}
use Rattle.work.proofs.After.{Good, After, and_then_lem, and_before, and_stay}

-- the most merges that a set can need as the left side, itself not counted: one for each entry at each depth
unfoldable pub weight : Forest → ℕ
weight none = 0
weight mark = 0
weight (over r b t) = suc (weight b) + weight t

-- the inner merges of numbers that add up to less than f come to what is meant
abbrev pub Serves : Bool → ℕ → Merge → Type 0
Serves m f inner = (t : State) (a b : ℕ) → Good t → a < length t.store → b < length t.store → a + b < f
    → After ℕ t (suc (weight (tree t.store a))) (merge_s m t.store a b) (inner t a b)

-- ---- the walk

merge_n_grew : (m : Bool) (s : Store) (n k : Node) → Grew s (merge_n m s n k).1
unfolding merge_n
merge_n_grew m s n k = place_e_grew s _

-- the entries of a record whose parents are older than a context a of the store
pub record Listed (t : State) (a lo : ℕ) (n : Node) : Type 0 where
  pub rise : Rise lo a n
  pub known : a ≤ length t.store

pub listed_rise : (t : State) (a lo : ℕ) (n : Node) → Listed t a lo n → Rise lo (length t.store) n
listed_rise t a lo n v = rise_le lo a (length t.store) n v.known v.rise

pub listed_next : (t u : State) (a lo r p : ℕ) (n : Node) → Grew t.store u.store → Listed t a lo (push r p n) → Listed u a (suc r) n
listed_next t u a lo r p n g v = record { rise = v.rise.2; known = omega (arith, v.known, grew_length t.store u.store g) }

-- the same, while nothing is made
pub listed_on : (t : State) (a lo r p : ℕ) (n : Node) → Listed t a lo (push r p n) → Listed t a (suc r) n
listed_on t a lo r p n v = listed_next t t a lo r p n (grew_refl t.store) v

module _ (m : Bool) (f : ℕ) (inner : Merge) (serves : Serves m f inner) (a b : ℕ) (small : a + b ≤ f + 1) where
  abbrev Walks : State → Node → Node → Type 0
  Walks t n k = After Node t (weight (tree_of (tree t.store) n)) (merge_n m t.store n k) (walk inner t n k)

  -- a state on both sides: the inner merge, and then the rest
  walk_both : (t : State) (r p : ℕ) (n : Node) (q o : ℕ) (k : Node) (lo lo' : ℕ) → r ≡ q → Good t
      → Listed t a lo (push r p n) → Listed t b lo' (push q o k)
      → ((u : State) → Good u → Grew t.store u.store → Walks u n k)
      → Walks t (push r p n) (push q o k)
  unfolding tree_of weight
  walk_both t r p n q o k lo lo' e v x y rest =
      let s = t.store in
      let C = merge_s m s p o in
      rw (walk_equal inner t r p n q o k e, entries_equal m s v.sound r p n q o k lo lo' (listed_rise t a lo _ x) (listed_rise t b lo' _ y) e)
      (and_then_lem ℕ Node t (suc (weight (tree s p))) (weight (tree_of (tree s) n)) _ C (ahead r C.0 (merge_n m C.1 n k)) (inner t p o) _
      (omega arith) (merge_n_grew m C.1 n k)
      (serves t p o v (omega (arith, x.rise.1, x.known)) (omega (arith, y.rise.1, y.known)) (omega (arith, x.rise.1, y.rise.1)))
      (λ c u h.
      let w : Walks u n k = rest u h.good h.grew in
      rw h.is
      (and_before u r c _ (weight (tree_of (tree s) n)) (merge_n m u.store n k) (walk inner u n k)
      (rw (grew_node s u.store h.grew (suc r) n (listed_rise t a lo _ x).2) (omega arith)) w)))

  pub walk_after : (t : State) (n k : Node) (lo lo' : ℕ) → Good t → Listed t a lo n → Listed t b lo' k → Walks t n k
  unfolding walk tree_of weight
  walk_after t end k lo lo' v x y = and_stay Node t _ _ k v (entries_end_left m t.store v.sound lo' k (listed_rise t b lo' k y))
  walk_after t dollar end lo lo' v x y = and_stay Node t _ _ dollar v (entries_end_right m t.store v.sound lo dollar tt)
  walk_after t dollar dollar lo lo' v x y = and_stay Node t _ _ dollar v (entries_dollars m t.store v.sound)
  walk_after t dollar (push q o k) lo lo' v x y =
      rw (entries_dollar_push m t.store v.sound q o k lo' (listed_rise t b lo' _ y))
      (and_before t q o 0 0 _ _ (omega arith) (walk_after t dollar k lo (suc q) v x (listed_on t b lo' q o k y)))
  walk_after t (push r p n) end lo lo' v x y =
      and_stay Node t _ _ (push r p n) v (entries_end_right m t.store v.sound lo (push r p n) (listed_rise t a lo _ x))
  walk_after t (push r p n) dollar lo lo' v x y =
      rw (entries_push_dollar m t.store v.sound r p n lo (listed_rise t a lo _ x))
      (and_before t r p (weight (tree_of (tree t.store) n)) _ _ _ (omega arith) (walk_after t n dollar (suc r) lo' v (listed_on t a lo r p n x) y))
  walk_after t (push r p n) (push q o k) lo lo' v x y =
      let rx = listed_rise t a lo (push r p n) x in
      let ry = listed_rise t b lo' (push q o k) y in
      three r q
      (λ h. rw (walk_less inner t r p n q o k h, entries_less m t.store v.sound r p n q o k lo lo' rx ry h)
      (and_before t r p (weight (tree_of (tree t.store) n)) _ _ _ (omega arith)
      (walk_after t n (push q o k) (suc r) lo' v (listed_on t a lo r p n x) y)))
      (λ h. walk_both t r p n q o k lo lo' h v x y
      (λ u w g. walk_after u n k (suc r) (suc q) w (listed_next t u a lo r p n g x) (listed_next t u b lo' q o k g y)))
      (λ h. rw (walk_greater inner t r p n q o k h, entries_greater m t.store v.sound r p n q o k lo lo' rx ry h)
      (and_before t q o (weight (tree_of (tree t.store) (push r p n))) _ _ _ (omega arith)
      (walk_after t (push r p n) k lo (suc q) v x (listed_on t b lo' q o k y))))
