-- States below a limit stay below it: merging and placing bring in no state of their own. Nothing here has to be believed.
use Rattle.std.specs.Prelude.{Bool, [], ◌∷◌, ℕ, length}
use Rattle.stacks.specs.Forest.{Forest, none, mark, over}
use Rattle.stacks.specs.Merge.{merge_e, merge_t}
use Rattle.stacks.proofs.MergeLaws.{merge_less, merge_equal, merge_greater, merge_e_none}
use Rattle.stacks.proofs.Algebra.{by_merge, wild_cases}
use Rattle.arena.specs.Store.{Node, end, dollar, push, Store, tree_of, tree}
use Rattle.arena.proofs.Trees.{find?}
use Rattle.arena.specs.Place.{listed, intern, place_e, place}
use Rattle.arena.proofs.Below.{Below, NodeBelow, StoreBelow}

merge_e_below : (l : ℕ) (m : Bool) (A B : Forest) → Below l A → Below l B → Below l (merge_e m A B)
unfolding merge_e merge_t
merge_e_below l m =
    by_merge (λ A B. Below l A → Below l B → Below l (merge_e m A B))
    (λ B v w. w)
    (λ A v w. rw merge_e_none v)
    (λ v w. tt)
    (λ s c u ih v w. (w.0, w.1, ih tt w.2))
    (λ r b t ih v w. (v.0, v.1, ih v.2 tt))
    (λ r b t s c u h ih v w. rw (merge_less m r b t s c u h) (v.0, v.1, ih v.2 w))
    (λ r b t s c u h hb ht v w. rw (merge_equal m r b t s c u h) (v.0, wild_cases (Below l) m b c _ tt (hb v.1 w.1), ht v.2 w.2))
    (λ r b t s c u h ih v w. rw (merge_greater m r b t s c u h) (w.0, w.1, ih v w.2))

pub merge_below : (l : ℕ) (m : Bool) (A B : Forest) → Below l A → Below l B → Below l (merge_t m A B)
unfolding merge_t
merge_below l m A B v w = wild_cases (Below l) m A B _ tt (merge_e_below l m A B v w)

tree_of_below : (l : ℕ) (f : ℕ → Forest) (n : Node) → NodeBelow l n → ((p : ℕ) → Below l (f p)) → Below l (tree_of f n)
unfolding tree_of
tree_of_below l f end v h = tt
tree_of_below l f dollar v h = tt
tree_of_below l f (push r p n) v h = (v.0, h p, tree_of_below l f n v.1 h)

pub tree_below : (l : ℕ) (s : Store) → StoreBelow l s → (c : ℕ) → Below l (tree s c)
unfolding tree
tree_below l [] v c = tt
tree_below l (n ∷ s) v c =
    elim (lib.Dec.eqb c (length s)) as (λ t. Below l (elim t [ Bool.true ↦ tree_of (tree s) n | Bool.false ↦ tree s c ])) [
      | Bool.true ↦ tree_of_below l (tree s) n v.0 (tree_below l s v.1)
      | Bool.false ↦ tree_below l s v.1 c
    ]

listed_below : (l : ℕ) (n : Node) → NodeBelow l n → NodeBelow l (listed n)
unfolding listed
listed_below l end v = tt
listed_below l dollar v = tt
listed_below l (push r p n) v = v

pub intern_below : (l : ℕ) (s : Store) (n : Node) → StoreBelow l s → NodeBelow l n → StoreBelow l (intern s n).1
unfolding intern
intern_below l s n v w = find? (listed n) s (λ c e. rw (e, intern) v) (λ e. rw (e, intern) (listed_below l n w, v))

place_e_below : (l : ℕ) (s : Store) (F : Forest) → StoreBelow l s → Below l F → NodeBelow l (place_e s F).0 × StoreBelow l (place_e s F).1
unfolding place_e
place_e_below l s none v w = (tt, v)
place_e_below l s mark v w = (tt, v)
place_e_below l s (over r b t) v w =
    let B = place_e s b in
    let hb : NodeBelow l B.0 × StoreBelow l B.1 = place_e_below l s b v w.1 in
    let P = intern B.1 B.0 in
    let ht : NodeBelow l (place_e P.1 t).0 × StoreBelow l (place_e P.1 t).1 = place_e_below l P.1 t (intern_below l B.1 B.0 hb.1 hb.0) w.2 in
    ((w.0, ht.0), ht.1)

pub place_below : (l : ℕ) (s : Store) (F : Forest) → StoreBelow l s → Below l F → StoreBelow l (place s F).1
unfolding place
place_below l s F v w =
    let B = place_e s F in
    let h = place_e_below l s F v w in
    intern_below l B.1 B.0 h.1 h.0
