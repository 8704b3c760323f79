-- A call leaves a store and a set that words can hold, and the store only grows. Nothing here has to be believed.
use Rattle.std.specs.Prelude.{◌≡◌, Bool, true, false, not, ◌&&◌, ℕ, ◌<◌, ◌≤◌, eqb, ltb, leb, length}
use Rattle.std.proofs.Math.Path.{refl, subst}
use Rattle.std.proofs.Common.{sym, ap, ◌∙◌, arith, le-leb, ltb-true, leb-false}
use mathlib.Core.List.{List, [], ◌∷◌}
use Rattle.std.proofs.Math.ListN.{get_or}
use Rattle.std.proofs.lemmas.Bool.{not-false}
use Rattle.arena.specs.Bools.{bool?, never_both, and_left, and_right}
use Rattle.arena.specs.Numbers.{below?}
use Rattle.encoding.specs.Names.{empty_mark}
use Rattle.arena.specs.Forest.{Forest, none, mark, over}
use Rattle.arena.specs.Merge.{merge_t}
use Rattle.arena.specs.Store.{Store, tree, Found, at, nowhere}
use Rattle.arena.proofs.Soundness.{Sound}
use Rattle.arena.proofs.Trees.{tree_canon, at_nowhere}
use Rattle.arena.proofs.Identity.{tree_root}
use Rattle.arena.specs.Place.{place, merge_s}
use Rattle.arena.proofs.Placed.{Grew, grew_refl, grew_length, place_grew, Holds, place_holds}
use Rattle.arena.proofs.Steps.{merge_holds, merge_grew}
use Rattle.arena.proofs.Below.{StoreBelow}
use Rattle.arena.proofs.BelowLaws.{tree_below, merge_below, place_below}
use Rattle.encoding.specs.Layout.{stop}
use Rattle.encoding.specs.Ceilings.{Fits}
use Rattle.encoding.specs.Good.{GoodStore}
use Rattle.encoding.specs.Decide.{fits}
use Rattle.encoding.proofs.DecideLaws.{fits_true}
use Rattle.store.specs.Checks.{Check, given, unless}
use Rattle.store.specs.Checks.Laws.{Clear, unless_first, unless_next}
use Rattle.interning.specs.SingletonCall.{single_s}
use Rattle.interning.proofs.SingletonNested.{single_mark, single_state}
use Rattle.sets.specs.Config.{Config, config}
use Rattle.sets.specs.Lists.{any, all}
use Rattle.sets.specs.Layout.{most_configs}
use Rattle.sets.specs.Sets.{Set, empty_set, closed_set, same_keys, held, add_to}
use Rattle.sets.specs.Words.{distinct, good_set}
use Rattle.sets.proofs.Sound.{good_known}
use Rattle.sets.proofs.Kept.{good_more, good_inserted, good_joined}
use Rattle.configs.proofs.Adds.{add_joined, add_new}
use Rattle.readers.specs.Calls.{Name, Call, singleton, merge, query, fresh_set, add, close, subsets, conflicting_alts, unique_alt, single_viable_alt}
use Rattle.readers.specs.Calls.{all_subsets_conflict, all_subsets_equal, verdict, why, Got}
use Rattle.readers.proofs.Pure.{State, to, halt, singleton_to, merge_to, add_checks_of, addition_to, verdict_to, state_after}

-- ---- what is made

-- x is the number of a context that stands for F, and the store that has it, grown from s
pub record Makes (s : Store) (x : ℕ × Store) (F : Forest) : Type 0 where
  pub holds : Holds x.1 x.0 F
  pub grew : Grew s x.1
  pub below : StoreBelow stop x.1

-- r over the stacks of F, and the empty stack alone where r is the empty mark
abbrev pub single_t : ℕ → Forest → Forest
single_t r F = elim (eqb r empty_mark) [ true ↦ mark | false ↦ over r F none ]

module _ (s : Store) (g : GoodStore s) where
  pub single_makes : (r c : ℕ) → c < length s → (leb stop r && not (eqb r empty_mark)) ≡ false → Makes s (single_s s c r) (single_t r (tree s c))
  single_makes r c h ok =
      bool? (eqb r empty_mark)
      (λ e. rw (single_mark s c r e, e, single_t)
      (record { holds = record { sound = g.sound; known = g.some; is = tree_root s g.sound g.some }; grew = grew_refl s; below = g.below }))
      (λ e.
      let v = tree_canon s g.sound c h in
      rw (single_state s c r e, e, single_t)
      (record {
        holds = place_holds s (over r (tree s c) none) g.sound (omega arith, v.0, v.1, tt) tt;
        grew = place_grew s (over r (tree s c) none);
        below = place_below stop s (over r (tree s c) none) g.below (state e, tree_below stop s g.below c, tt);
      }))
    where
      state : eqb r empty_mark ≡ false → r < stop
      state e = below? r stop (λ l. l) (λ l. let k : ◌≡◌ {A = Bool} true false = rw (le-leb stop r l, e) at ok in never_both {b = true} refl k)

  pub merge_makes : (m : Bool) (a b : ℕ) → a < length s → b < length s → Makes s (merge_s m s a b) (merge_t m (tree s a) (tree s b))
  unfolding merge_s
  merge_makes m a b h k = record {
    holds = merge_holds m s g.sound a b h k;
    grew = merge_grew m s g.sound a b h k;
    below = place_below stop s _ g.below (merge_below stop m _ _ (tree_below stop s g.below a) (tree_below stop s g.below b));
  }

-- found or not
pub found? {ℓ} : {X : Type ℓ} (o : Found) → ((c : ℕ) → o ≡ at c → X) → (o ≡ nowhere → X) → X
found? (at c) f h = f c refl
found? nowhere f h = h refl

-- ---- what is left

pub record Good (s : Store) (S : Set) : Type 0 where
  pub store : GoodStore s
  pub set : good_set (length s) S ≡ true

pub record After (s : Store) (D : State) : Type 0 where
  pub good : Good D.store D.set
  pub grew : Grew s D.store

-- what may be named is in the store
abbrev pub Known : Store → List ℕ → Type 0
Known s cs = (n : Name) → get_or cs n 0 < length s

module _ (s : Store) (S : Set) (good : Good s S) where
  stays : (g : Got ℕ) → After s (to g s S)
  stays g = record { good = good; grew = grew_refl s }

  checked : (D : State) (cs : List Check) → (Clear cs → After s D) → After s (unless cs (halt s S) D)
  unfolding unless
  checked D [] h = h tt
  checked D (c ∷ cs) h =
      bool? c.holds
      (λ e. subst (After s) (sym (unless_first (halt s S) D c cs e)) (stays _))
      (λ e. subst (After s) (sym (unless_next (halt s S) D c cs e)) (checked D cs (λ v. h (e, v))))

  grown : {x : ℕ × Store} {F : Forest} → Makes s x F → fits x.1 ≡ true → GoodStore x.1
  grown m e = record { sound = m.holds.sound; below = m.below; some = omega (arith, m.holds.known); fits = fits_true _ e }

  made : (g : Got ℕ) (x : ℕ × Store) (F : Forest) → Makes s x F → not (fits x.1) ≡ false → After s (to g x.1 S)
  made g x F m e = record {
    good = record { store = grown m (not-false _ e); set = good_more (length s) (length x.1) S (grew_length s x.1 m.grew) good.set };
    grew = m.grew;
  }

  -- ---- a config added

  pub held_known : (x : Config) (ys : List Config) (k c : ℕ) → all (λ y. ltb y.context k) ys ≡ true → held x ys ≡ at c → c < k
  unfolding held all
  held_known x [] k c a e = absurd (at_nowhere c (sym e))
  held_known x (y ∷ ys) k c a e =
      bool? (same_keys x y)
      (λ q. let r : at y.context ≡ at c = rw (q, held) at e in let p : y.context ≡ c = cc in rw (← p) (ltb-true y.context k (and_left _ _ a)))
      (λ q. held_known x ys k c (and_right (ltb y.context k) _ a) (rw (q, held) at e))

  held_none : (x : Config) (ys : List Config) → held x ys ≡ nowhere → any (same_keys x) ys ≡ false
  unfolding held any
  held_none x [] e = refl
  held_none x (y ∷ ys) e =
      bool? (same_keys x y)
      (λ q. let r : at y.context ≡ nowhere = rw (q, held) at e in cc)
      (λ q. rw q (held_none x ys (rw (q, held) at e)))

  joined_after : (x : Config) → x.context < length s → (c : ℕ) → held x S.configs ≡ at c → Clear (add_checks_of s S x (add_to s S x)) → (g : Got ℕ)
      → After s (to g (add_to s S x).store (add_to s S x).set)
  joined_after x h c e ok g =
      let m = merge_makes s good.store (not S.full) c x.context (held_known x S.configs (length s) c (good_known (length s) S good.set) e) h in
      let room = not-false _ (rw (add_joined s S x c e) at ok.1.1.1.1.0) in
      rw (add_joined s S x c e)
      (record {
        good = record {
          store = grown m room;
          set = good_joined x _ (length s) _ S (grew_length s _ m.grew) m.holds.known good.set;
        };
        grew = m.grew;
      })

  inserted_after : (x : Config) → x.context < length s → held x S.configs ≡ nowhere → Clear (add_checks_of s S x (add_to s S x)) → (g : Got ℕ)
      → After s (to g (add_to s S x).store (add_to s S x).set)
  inserted_after x h e ok g =
      let new = held_none x S.configs e in
      let few : leb most_configs (length S.configs) ≡ false = rw new at ok.1.1.0 in
      rw (add_new s S x e)
      (record {
        good = record { store = good.store; set = good_inserted (length s) S x good.set h new (leb-false most_configs (length S.configs) few) };
        grew = grew_refl s;
      })

  addition_after : (x : Config) → x.context < length s → After s (addition_to s S x)
  addition_after x h =
      checked _ (add_checks_of s S x (add_to s S x)) (λ ok. found? (held x S.configs) (λ c e. joined_after x h c e ok _) (λ e. inserted_after x h e ok _))

  -- ---- each call

  module _ (cs : List ℕ) (known : Known s cs) where
    pub step_after : (x : Call) → After s (state_after s S cs x)
    unfolding state_after good_set all distinct
    step_after (singleton n r) = let c = get_or cs n 0 in checked _ _ (λ ok. made _ (single_s s c r) _ (single_makes s good.store r c (known n) ok.0) ok.1.0)
    step_after (merge n k m) =
        let a = get_or cs n 0 in
        let b = get_or cs k 0 in
        checked _ _ (λ ok. made _ (merge_s m s a b) _ (merge_makes s good.store m a b (known n) (known k)) ok.1.0)
    step_after (query q n) = stays _
    step_after (fresh_set f) = record { good = record { store = good.store; set = refl }; grew = grew_refl s }
    step_after (add q a n m r p) = addition_after (config q a (get_or cs n 0) m r p) (known n)
    step_after close = record { good = record { store = good.store; set = good.set }; grew = grew_refl s }
    step_after subsets = stays _
    step_after conflicting_alts = stays _
    step_after unique_alt = stays _
    step_after single_viable_alt = stays _
    step_after all_subsets_conflict = stays _
    step_after all_subsets_equal = stays _
    step_after (verdict stops) = checked _ _ (λ ok. stays _)
    step_after (why stops) = checked _ _ (λ ok. stays _)
