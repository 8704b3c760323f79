-- In a sound store two numbers are equal exactly when they stand for the same set of stacks; and what each kind of record stands for.
-- Nothing here has to be believed.
use Rattle.std.specs.Prelude.{◌≡◌, refl, ◌↔◌, Bool, true, false, ◌&&◌, ◌||◌, ℕ, ◌<◌, eqb, length}
use Rattle.std.proofs.Common.{sym, ap, ◌∙◌, arith}
use Rattle.std.proofs.Math.Bool.{or-false}
use Rattle.std.proofs.lemmas.Bool.{false≢true}
use mathlib.Core.List.{List, [], ◌∷◌, Memᴰ}
use Rattle.stacks.specs.Forest.{Forest, none, mark, over, mem}
use Rattle.stacks.specs.Finite.{stacks_of, finite}
use Rattle.stacks.specs.Beneath.{first, mem_first, ext}
use Rattle.stacks.specs.Merge.{is_mark}
use Rattle.arena.specs.Store.{Node, end, dollar, push, Store, tree_of, tree, node_at}
use Rattle.arena.proofs.Soundness.{Rise, Full, Sound}
use Rattle.arena.proofs.Trees.{node_sound, tree_node, tree_canon, tree_inj}
use Rattle.arena.specs.Stands.{stands}

-- Demand 3: equal numbers exactly when the same stacks.
pub same_stacks : (s : Store) → Sound s → (a b : ℕ) → a < length s → b < length s
    → (a ≡ b) ↔ ((σ : List ℕ) → stands s a σ ≡ stands s b σ)
same_stacks s w a b h k = (
  λ e σ. ap (λ (c : ℕ). stands s c σ) e,
  λ same. tree_inj s w a b h k (ext _ _ (tree_canon s w a h).1 (tree_canon s w b k).1 same),
)

-- "A context stands for a finite, non-empty set of stacks": its stacks as a list, and one that is there
pub finite_stacks : (s : Store) (c : ℕ) → (l : List (List ℕ)) × ((σ : List ℕ) → (stands s c σ ≡ true) ↔ Memᴰ σ l)
finite_stacks s c = (stacks_of (tree s c), finite (tree s c))

pub some_stack : (s : Store) → Sound s → (c : ℕ) → c < length s → (σ : List ℕ) × (stands s c σ ≡ true)
some_stack s w c h = let v = tree_canon s w c h in (first (tree s c), mem_first 0 (tree s c) v.1 v.0)

-- ---- context 0 is the empty stack alone, and no other is

pub tree_root : (s : Store) → Sound s → 0 < length s → tree s 0 ≡ mark
unfolding tree_of
tree_root s w h = rw (tree_node s w 0 h) (go (node_at s 0) (node_sound s w 0 h))
  where
    go : (n : Node) → Rise 0 0 n × Full n → tree_of (tree s) n ≡ mark
    go end v = absurd v.1
    go dollar v = refl
    go (push r p n) v = absurd (omega arith)

is_mark_is : (F : Forest) → is_mark F ≡ true → F ≡ mark
unfolding is_mark
is_mark_is none e = absurd (false≢true e)
is_mark_is mark e = refl
is_mark_is (over r b t) e = absurd (false≢true e)

pub not_root : (s : Store) → Sound s → (a : ℕ) → a < length s → 0 < a → is_mark (tree s a) ≡ false
not_root s w a h k = go (is_mark (tree s a)) refl
  where
    go : (t : Bool) → is_mark (tree s a) ≡ t → is_mark (tree s a) ≡ false
    go false e = e
    go true e = absurd (omega (arith, tree_inj s w a 0 h (omega arith) (is_mark_is _ e ∙ sym (tree_root s w (omega arith)))))

-- "Context 0 stands for the set with only the empty stack."
pub root_stands : (s : Store) → Sound s → 0 < length s → (stands s 0 [] ≡ true) × ((x : ℕ) (σ : List ℕ) → stands s 0 (x ∷ σ) ≡ false)
unfolding mem
root_stands s w h = (rw (tree_root s w h), λ x σ. rw (tree_root s w h))

-- "A singleton (parent p, state r) stands for r placed on top of each stack of p."
pub singleton_stands : (s : Store) → Sound s → (c r p : ℕ) → c < length s → node_at s c ≡ push r p end
    → (stands s c [] ≡ false) × ((x : ℕ) (σ : List ℕ) → stands s c (x ∷ σ) ≡ (eqb r x && stands s p σ))
unfolding mem tree_of
singleton_stands s w c r p h e =
    let is : tree s c ≡ over r (tree s p) none = tree_node s w c h ∙ ap (tree_of (tree s)) e in
    (rw is, λ x σ. rw is (or-false _))

-- the stacks of a record's entries, one after the other: `$` is the empty stack, an entry its state on top of each stack of its parent
unfoldable pub entries_stand : Store → Node → List ℕ → Bool
entries_stand s end σ = false
entries_stand s dollar [] = true
entries_stand s dollar (x ∷ σ) = false
entries_stand s (push r p n) [] = entries_stand s n []
entries_stand s (push r p n) (x ∷ σ) = (eqb r x && stands s p σ) || entries_stand s n (x ∷ σ)

tree_of_stands : (s : Store) (n : Node) (σ : List ℕ) → mem (tree_of (tree s) n) σ ≡ entries_stand s n σ
unfolding mem tree_of entries_stand
tree_of_stands s end σ = refl
tree_of_stands s dollar [] = refl
tree_of_stands s dollar (x ∷ σ) = refl
tree_of_stands s (push r p n) [] = tree_of_stands s n []
tree_of_stands s (push r p n) (x ∷ σ) = rw (tree_of_stands s n (x ∷ σ))

-- "An array stands for the union over its entries. The entry `$` is the empty stack."
pub record_stands : (s : Store) → Sound s → (c : ℕ) → c < length s → (σ : List ℕ) → stands s c σ ≡ entries_stand s (node_at s c) σ
record_stands s w c h σ = ap (λ (F : Forest). mem F σ) (tree_node s w c h) ∙ tree_of_stands s (node_at s c) σ
