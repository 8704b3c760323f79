-- The first config in set order that is a P, by its place; and the first subset with two or more alternatives by its first config.
-- Nothing here has to be believed.
use Rattle.std.specs.Prelude.{◌≡◌, refl, Bool, true, false, not, List, [], ◌∷◌, ◌++◌, map, ℕ, zero, suc, ◌<◌}
use Rattle.std.proofs.Common.{sym, ap, inl, inr, arith}
use Rattle.std.proofs.Math.Path.{subst}
use Rattle.words.specs.Bools.{bool?}
use Rattle.words.specs.Numbers.{two}
use Rattle.groups.specs.Config.{Config}
use Rattle.groups.specs.Layout.{config_at}
use Rattle.groups.specs.Words.{configs_in}
use Rattle.groups.specs.Lists.{All, which}
use Rattle.groups.specs.Lists.Tests.{which_yes, which_no}
use Rattle.groups.specs.Groups.{together, firsts, subset, groups}
use Rattle.groups.proofs.Rules.{subset_same}
use Rattle.groups.specs.Sentences.{Many}
use Rattle.groups.specs.Reason.{FirstOf}
use Rattle.grouping.specs.Places.{place_every}

-- ---- by place

module _ {A : Type 0} (P : A → Type 0) where
  -- none of the first ones is a P
  first_after : (xs : List A) (y : A) → All (λ x. P x → ⊥) xs → P y → FirstOf P y (xs ++ (y ∷ []))
  first_after [] y v p = inl (p, refl)
  first_after (x ∷ xs) y v p = inr (v.0, first_after xs y v.1 p)

  -- more behind
  first_more : (xs ys : List A) (a : A) → FirstOf P a xs → FirstOf P a (xs ++ ys)
  first_more (x ∷ xs) ys a (inl h) = inl h
  first_more (x ∷ xs) ys a (inr h) = inr (h.0, first_more xs ys a h.1)
  first_more [] ys a x' = elim x' [ ]

  -- those that fail a test, which no P fails, left out
  first_which : (t : A → Bool) → ((x : A) → t x ≡ false → P x → ⊥) → (xs : List A) (a : A) → FirstOf P a xs → FirstOf P a (which t xs)
  unfolding which
  first_which t f (x ∷ xs) a (inl h) =
      bool? (t x) (λ e. subst (FirstOf P a) (sym (which_yes t x xs e)) (inl h)) (λ e. absurd (f x e h.0))
  first_which t f (x ∷ xs) a (inr h) =
      let rest = first_which t f xs a h.1 in
      bool? (t x)
      (λ e. subst (FirstOf P a) (sym (which_yes t x xs e)) (inr (h.0, rest)))
      (λ e. subst (FirstOf P a) (sym (which_no t x xs e)) rest)
  first_which t f [] a x' = elim x' [ ]

pub place_first : (P : Config → Type 0) (v : List ℕ) (n i : ℕ) → i < n → ((j : ℕ) → j < i → P (config_at v j) → ⊥) → P (config_at v i)
    → FirstOf P (config_at v i) (configs_in v n)
unfolding configs_in
place_first P v zero i h f p = absurd (omega arith)
place_first P v (suc n) i h f p =
    two i n
    (λ e. subst (λ (k : ℕ). FirstOf P (config_at v i) (configs_in v k ++ (config_at v k ∷ []))) e
    (first_after P (configs_in v i) (config_at v i) (place_every v (λ c. P c → ⊥) i f) p))
    (λ d. first_more P (configs_in v n) (config_at v n ∷ []) (config_at v i) (place_first P v n i (omega arith) f p))

-- ---- of the subsets

not_false : (b : Bool) → not b ≡ false → b ≡ true
not_false true e = refl
not_false false e = sym e

-- of the configs that are alike the first stands for all
first_firsts : (P : Config → Type 0) (alike : Config → Config → Bool) → ((c d : Config) → alike c d ≡ true → P d → P c)
    → (cs : List Config) (a : Config) → FirstOf P a cs → FirstOf P a (firsts alike cs)
unfolding firsts
first_firsts P alike f (c ∷ cs) a (inl h) = inl h
first_firsts P alike f (c ∷ cs) a (inr h) =
    inr (h.0, first_which P (λ d. not (alike c d)) (λ x e p. h.0 (f c x (not_false (alike c x) e) p)) (firsts alike cs) a (first_firsts P alike f cs a h.1))
first_firsts P alike f [] a x' = elim x' [ ]

first_map : {A B : Type 0} (g : A → B) (P : B → Type 0) (xs : List A) (a : A) → FirstOf (λ x. P (g x)) a xs → FirstOf P (g a) (map g xs)
first_map g P (x ∷ xs) a (inl h) = inl (h.0, ap g h.1)
first_map g P (x ∷ xs) a (inr h) = inr (h.0, first_map g P xs a h.1)
first_map {A = A} {B = B} g P [] a x' = elim x' [ ]

-- The first config whose subset has two or more alternatives has the first such subset.
pub first_subset : (cs : List Config) (c : Config) → FirstOf (λ d. Many (subset cs d)) c cs → FirstOf Many (subset cs c) (groups cs)
unfolding groups
first_subset cs c h =
    first_map (subset cs) Many (firsts together cs) c
    (first_firsts (λ d. Many (subset cs d)) together (λ a b e m. rw (subset_same cs a b e) m) cs c h)
