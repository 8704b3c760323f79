-- A sound set stays sound when a config is added. Nothing here has to be believed.
use Rattle.std.specs.Prelude.{◌≡◌, refl, Bool, true, false, not, ℕ, ◌<◌, ◌≤◌, ltb, length}
use Rattle.std.proofs.Common.{sym, ap, ◌∙◌, arith, length-append, ltb-true, lt-ltb, le-leb}
use mathlib.Core.List.{List, [], ◌∷◌, ◌++◌}
use Rattle.sets.specs.Config.{Config}
use Rattle.sets.specs.Lists.{any, all}
use Rattle.encoding.specs.Bools.{bool?, bool_iff, both_true, and_left, and_right}
use Rattle.sets.specs.Lists.Laws.{all_more}
use Rattle.sets.specs.Layout.{most_configs}
use Rattle.sets.specs.Sets.{Set, key, same_keys, with_configs, joined, joined_all}
use Rattle.sets.specs.Sets.Laws.{key_of_same, same_of_key, key_joined}
use Rattle.sets.specs.Words.{distinct, good_set}
use Rattle.sets.specs.Listed.{distinct_more}
use Rattle.sets.proofs.Joined.{joined_if, joined_here, joined_other, joined_first, joined_none, joined_length}
use Rattle.sets.proofs.Sound.{good_few, good_known, good_distinct}

-- the context is known
abbrev known : ℕ → Config → Bool
known k x = ltb x.context k

-- in a larger store what was known is known
known_more : (k m : ℕ) → k ≤ m → (cs : List Config) → all (known k) cs ≡ true → all (known m) cs ≡ true
unfolding all
known_more k m h [] e = refl
known_more k m h (x ∷ xs) e =
    both_true _ _ (lt-ltb x.context m (omega (arith, ltb-true x.context k (and_left _ _ e)))) (known_more k m h xs (and_right (known k x) _ e))

pub good_more : (k m : ℕ) (S : Set) → k ≤ m → good_set k S ≡ true → good_set m S ≡ true
unfolding good_set
good_more k m S h g =
    both_true _ _ (le-leb (length S.configs) most_configs (good_few k S g)) (both_true _ _ (known_more k m h S.configs (good_known k S g)) (good_distinct k S g))

-- ---- one config more

pub good_inserted : (k : ℕ) (S : Set) (x : Config) → good_set k S ≡ true → x.context < k → any (same_keys x) S.configs ≡ false → length S.configs < most_configs
    → good_set k (with_configs S (S.configs ++ (x ∷ []))) ≡ true
unfolding good_set
good_inserted k S x g c n l =
    let cs : List Config = S.configs in
    both_true _ _ (le-leb (length (cs ++ (x ∷ []))) most_configs (omega (arith, length-append cs (x ∷ []))))
    (both_true _ _ (all_more (known k) cs x ∙ both_true _ _ (good_known k S g) (lt-ltb x.context k c)) (distinct_more cs x ∙ both_true _ _ (good_distinct k S g) (ap not n)))

-- ---- one config joined

module _ (x : Config) (c : ℕ) where
  key_same : (y : Config) → key (joined_if x c y) ≡ key y
  key_same y = bool? (same_keys x y) (λ e. ap key (joined_here x c y e) ∙ key_joined x c y) (λ e. ap key (joined_other x c y e))

  test_same : (y z : Config) → same_keys (joined_if x c y) (joined_if x c z) ≡ same_keys y z
  test_same y z =
      bool_iff _ _
      (λ e. same_of_key y z (sym (key_same y) ∙ key_of_same (joined_if x c y) (joined_if x c z) e ∙ key_same z))
      (λ e. same_of_key (joined_if x c y) (joined_if x c z) (key_same y ∙ key_of_same y z e ∙ sym (key_same z)))

  any_joined : (y : Config) (cs : List Config) → any (same_keys (joined_if x c y)) (joined_all x c cs) ≡ any (same_keys y) cs
  unfolding any
  any_joined y [] = rw (joined_none x c)
  any_joined y (z ∷ zs) = rw (joined_first x c z zs, test_same y z, any_joined y zs)

  distinct_joined : (cs : List Config) → distinct (joined_all x c cs) ≡ distinct cs
  unfolding distinct
  distinct_joined [] = rw (joined_none x c)
  distinct_joined (y ∷ ys) = rw (joined_first x c y ys, any_joined y ys, distinct_joined ys)

  known_joined : (m : ℕ) → c < m → (cs : List Config) → all (known m) cs ≡ true → all (known m) (joined_all x c cs) ≡ true
  unfolding all joined
  known_joined m h [] e = rw (joined_none x c)
  known_joined m h (y ∷ ys) e =
      rw (joined_first x c y ys)
      (both_true (known m (joined_if x c y)) _
      (bool? (same_keys x y) (λ s. rw (joined_here x c y s) (lt-ltb c m h)) (λ s. rw (joined_other x c y s) (and_left _ _ e)))
      (known_joined m h ys (and_right (known m y) _ e)))

  pub good_joined : (k m : ℕ) (S : Set) → k ≤ m → c < m → good_set k S ≡ true → good_set m (with_configs S (joined_all x c S.configs)) ≡ true
  unfolding good_set
  good_joined k m S h l g =
      both_true _ _ (le-leb (length (joined_all x c S.configs)) most_configs (omega (arith, joined_length x c S.configs, good_few k S g)))
      (both_true _ _ (known_joined m l S.configs (known_more k m h S.configs (good_known k S g))) (distinct_joined S.configs ∙ good_distinct k S g))
