-- Sets and answers that differ only in context numbers, and by a relation of those. Nothing here has to be believed.
use Rattle.std.specs.Prelude.{◌≡◌, Bool, true, false, not, ◌&&◌, ◌||◌, List, [], ◌∷◌, ◌++◌, map, ℕ, zero, suc, leb, length, get_or}
use Rattle.std.proofs.Math.Path.{refl, ap}
use Rattle.std.proofs.Common.{ap₂}
use Rattle.arena.specs.Store.{Found, at, nowhere}
use Rattle.sets.specs.Config.{Config}
use Rattle.sets.specs.Lists.{any}
use Rattle.sets.specs.Layout.{most_configs}
use Rattle.sets.specs.Sets.{Set, with_configs, key, same_keys, held, joined, joined_all}
use Rattle.groups.specs.Groups.{Group}
use Rattle.groups.specs.Reason.{Reason}
use Rattle.groups.proofs.Renamed.{Each, none, more, each_length, moved, Twin, twin, TwinGroup, twin_group, TwinReason, twin_stop, twin_none, twin_one, twin_clash}
use Rattle.readers.specs.Calls.{Plain, Part, part, Got, refused, context, groups, plain, reasoned}
use Rattle.readers.specs.Runs.{heard}
use Rattle.readers.proofs.Pure.{part_of}

-- ---- lists alike, element by element

module _ {A : Type 0} (P : A → A → Type 0) where
  pub each_append : {xs ys us vs : List A} → Each P xs ys → Each P us vs → Each P (xs ++ us) (ys ++ vs)
  each_append none m = m
  each_append (more r l) m = more r (each_append l m)

  pub each_wider : (Q : A → A → Type 0) → ((x y : A) → P x y → Q x y) → {xs ys : List A} → Each P xs ys → Each Q xs ys
  each_wider Q h none = none
  each_wider Q h (more {x} {y} r l) = more (h x y r) (each_wider Q h l)

  pub each_map : {B : Type 0} (Q : B → B → Type 0) (f g : A → B) → ((x y : A) → P x y → Q (f x) (g y)) → {xs ys : List A} → Each P xs ys → Each Q (map f xs) (map g ys)
  each_map Q f g h none = none
  each_map Q f g h (more {x} {y} r l) = more (h x y r) (each_map Q f g h l)

  pub each_same : {B : Type 0} (f g : A → B) → ((x y : A) → P x y → f x ≡ g y) → {xs ys : List A} → Each P xs ys → map f xs ≡ map g ys
  each_same f g h none = refl
  each_same f g h (more {x} {y} r l) = rw (h x y r, each_same f g h l)

-- ---- what differs only in its contexts

-- a relation of the numbers of one store and those of another
abbrev pub Rel : Type 1
Rel = ℕ → ℕ → Type 0

pub data Founds (R : Rel) : Found → Found → Type 0 where
  both : {c d : ℕ} → R c d → Founds R (at c) (at d)
  neither : Founds R nowhere nowhere

pub data Sets (R : Rel) : Set → Set → Type 0 where
  set : (S : Set) {ys : List Config} → Each (Twin R) S.configs ys → Sets R S (with_configs S ys)

pub data Parts (R : Rel) : Part ℕ → Part ℕ → Type 0 where
  parts : (q : ℕ) (l : List ℕ) {c d : ℕ} → R c d → Parts R (part q c l) (part q d l)

pub data Gots (R : Rel) : Got ℕ → Got ℕ → Type 0 where
  refusals : (n : ℕ) → Gots R (refused n) (refused n)
  contexts : {c d : ℕ} → R c d → Gots R (context c) (context d)
  grouped : {l m : List (Part ℕ)} → Each (Parts R) l m → Gots R (groups l) (groups m)
  plains : (p : Plain) → Gots R (plain p) (plain p)

-- ---- a wider relation

twin_wider : (R Q : Rel) → ((c d : ℕ) → R c d → Q c d) → (x y : Config) → Twin R x y → Twin Q x y
twin_wider R Q wider x y (twin z d r) = twin z d (wider z.context d r)

pub configs_wider : (R Q : Rel) → ((c d : ℕ) → R c d → Q c d) → {xs ys : List Config} → Each (Twin R) xs ys → Each (Twin Q) xs ys
configs_wider R Q wider l = each_wider (Twin R) (Twin Q) (twin_wider R Q wider) l

pub sets_wider : (R Q : Rel) → ((c d : ℕ) → R c d → Q c d) → {S T : Set} → Sets R S T → Sets Q S T
sets_wider R Q wider (set S l) = set S (configs_wider R Q wider l)

module _ (R : Rel) where
  -- ---- answers

  -- where 0 is alike with itself, so is what is named
  pub named_alike : (k : ℕ) {cs ds : List ℕ} → R 0 0 → Each R cs ds → R (get_or cs k 0) (get_or ds k 0)
  named_alike k z none = z
  named_alike zero z (more r l) = r
  named_alike (suc k) z (more r l) = named_alike k z l

  part_context : (x y : Part ℕ) → Parts R x y → R x.context y.context
  part_context x y (parts q l r) = r

  pub heard_alike : {p q : Got ℕ} → Gots R p q → Each R (heard p) (heard q)
  unfolding heard
  heard_alike (refusals n) = none
  heard_alike (contexts r) = more r none
  heard_alike (grouped l) = each_map (Parts R) R (λ g. g.context) (λ g. g.context) part_context l
  heard_alike (plains p) = none

  group_part : (x y : Group) → TwinGroup R x y → Parts R (part_of x) (part_of y)
  group_part x y (twin_group g k r) = parts g.state g.alternatives r

  pub parts_alike : {l m : List Group} → Each (TwinGroup R) l m → Each (Parts R) (map part_of l) (map part_of m)
  parts_alike l = each_map (TwinGroup R) (Parts R) part_of part_of group_part l

  pub reason_alike : {r t : Reason} → TwinReason R r t → Gots R (reasoned r) (reasoned t)
  unfolding reasoned
  reason_alike twin_stop = plains _
  reason_alike twin_none = plains _
  reason_alike (twin_one s a) = plains _
  reason_alike (twin_clash s xs r) = grouped (more (parts s xs r) none)

  -- ---- adding

  found_alike : (t : Bool) {c d : ℕ} {o p : Found} → R c d → Founds R o p → Founds R (elim t [ true ↦ at c | false ↦ o ]) (elim t [ true ↦ at d | false ↦ p ])
  found_alike true r l = both r
  found_alike false r l = l

  pub held_alike : (x : Config) (e : ℕ) {xs ys : List Config} → Each (Twin R) xs ys → Founds R (held x xs) (held (moved x e) ys)
  unfolding held same_keys key
  held_alike x e none = neither
  held_alike x e (more (twin y d r) l) = found_alike (same_keys x y) r (held_alike x e l)

  pick_alike : (t : Bool) {y y' u u' : Config} → Twin R y y' → Twin R u u' → Twin R (elim t [ true ↦ y | false ↦ u ]) (elim t [ true ↦ y' | false ↦ u' ])
  pick_alike true h k = h
  pick_alike false h k = k

  pub join_alike : (x : Config) (e c d : ℕ) → R c d → {xs ys : List Config} → Each (Twin R) xs ys → Each (Twin R) (joined_all x c xs) (joined_all (moved x e) d ys)
  unfolding joined_all joined same_keys key
  join_alike x e c d h none = none
  join_alike x e c d h (more (twin y b r) l) = more (pick_alike (same_keys x y) (twin (joined x c y) d h) (twin y b r)) (join_alike x e c d h l)

  any_alike : (x : Config) (e : ℕ) {xs ys : List Config} → Each (Twin R) xs ys → any (same_keys x) xs ≡ any (same_keys (moved x e)) ys
  unfolding any same_keys key
  any_alike x e none = refl
  any_alike x e (more (twin y d r) l) = ap (λ (b : Bool). same_keys x y || b) (any_alike x e l)

  -- check 8 is the same
  pub full_alike : (x : Config) (e : ℕ) {xs ys : List Config} → Each (Twin R) xs ys
      → (not (any (same_keys x) xs) && leb most_configs (length xs)) ≡ (not (any (same_keys (moved x e)) ys) && leb most_configs (length ys))
  full_alike x e l = ap₂ (λ (b : Bool) (n : ℕ). not b && leb most_configs n) (any_alike x e l) (each_length l)
