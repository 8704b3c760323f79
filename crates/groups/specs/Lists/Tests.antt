-- Tests on lists decide what they say, and what is left of a list by a test. Nothing here has to be believed.
use Rattle.std.specs.Prelude.{◌≡◌, ◌⊎◌, ◌↔◌, Bool, false, ◌&&◌, ◌||◌}
use Rattle.std.proofs.Math.Path.{refl}
use Rattle.std.proofs.Common.{sym, subst}
use Rattle.std.proofs.Math.Logic.{inl, inr, ⊎_elim}
use Rattle.std.proofs.Math.Bool.{true, false≢true}
use mathlib.Core.List.{List, [], ◌∷◌}
use Rattle.sets.specs.Lists.{any, all}
use Rattle.sets.specs.Bools.{bool?, never_both, both_true, or_right}
use Rattle.groups.specs.Lists.{Any, All, Pairwise, which}
use Rattle.groups.specs.Lists.Laws.{every_of}

pub and_true : (a b : Bool) → (a && b) ≡ true → (a ≡ true) × (b ≡ true)
and_true true b e = (refl, e)
and_true false b e = absurd (false≢true e)

pub or_true : (a b : Bool) → (a || b) ≡ true → (a ≡ true) ⊎ (b ≡ true)
or_true true b e = inl refl
or_true false b e = inr e

pub true_or_left : (a b : Bool) → a ≡ true → (a || b) ≡ true
true_or_left a b e = rw e

module _ {A : Type 0} where
  -- ---- a test that decides P tells whether some element is a P, and whether every one is

  pub any_some : (t : A → Bool) (P : A → Type 0) (xs : List A) → ((x : A) → t x ≡ true → P x) → any t xs ≡ true → Any P xs
  unfolding any
  any_some t P [] f e = false≢true e
  any_some t P (x ∷ xs) f e = ⊎_elim (λ h. inl (f x h)) (λ h. inr (any_some t P xs f h)) (or_true (t x) (any t xs) e)

  pub some_any : (t : A → Bool) (P : A → Type 0) (xs : List A) → ((x : A) → P x → t x ≡ true) → Any P xs → any t xs ≡ true
  unfolding any
  some_any t P (x ∷ xs) f (inl p) = true_or_left (t x) (any t xs) (f x p)
  some_any t P (x ∷ xs) f (inr m) = or_right (t x) (any t xs) (some_any t P xs f m)
  some_any t P [] f x'' = elim x'' [ ]

  pub all_every : (t : A → Bool) (P : A → Type 0) (xs : List A) → ((x : A) → t x ≡ true → P x) → all t xs ≡ true → All P xs
  unfolding all
  all_every t P [] f e = tt
  all_every t P (x ∷ xs) f e = let h = and_true (t x) (all t xs) e in (f x h.0, all_every t P xs f h.1)

  pub every_all : (t : A → Bool) (P : A → Type 0) (xs : List A) → ((x : A) → P x → t x ≡ true) → All P xs → all t xs ≡ true
  unfolding all
  every_all t P [] f v = refl
  every_all t P (x ∷ xs) f v = both_true (t x) (all t xs) (f x v.0) (every_all t P xs f v.1)

  pub any_exact : (t : A → Bool) (P : A → Type 0) (xs : List A) → ((x : A) → (t x ≡ true) ↔ P x) → (any t xs ≡ true) ↔ Any P xs
  any_exact t P xs d = (any_some t P xs (λ x. (d x).0), some_any t P xs (λ x. (d x).1))

  pub all_exact : (t : A → Bool) (P : A → Type 0) (xs : List A) → ((x : A) → (t x ≡ true) ↔ P x) → (all t xs ≡ true) ↔ All P xs
  all_exact t P xs d = (all_every t P xs (λ x. (d x).0), every_all t P xs (λ x. (d x).1))

  -- ---- the elements that pass

  module _ (t : A → Bool) (x : A) (xs : List A) where
    pub which_yes : t x ≡ true → which t (x ∷ xs) ≡ x ∷ which t xs
    unfolding which
    which_yes e = rw (e, which)

    pub which_no : t x ≡ false → which t (x ∷ xs) ≡ which t xs
    unfolding which
    which_no e = rw (e, which)

  -- what holds of them, element by element
  pub by_which : (t : A → Bool) (Q : List A → Type 0) (x : A) (xs : List A)
      → (t x ≡ true → Q (x ∷ which t xs)) → (t x ≡ false → Q (which t xs)) → Q (which t (x ∷ xs))
  by_which t Q x xs f g = bool? (t x) (λ e. subst Q (sym (which_yes t x xs e)) (f e)) (λ e. subst Q (sym (which_no t x xs e)) (g e))

  pub every_which : (t : A → Bool) (P Q : A → Type 0) (xs : List A) → ((x : A) → t x ≡ true → P x → Q x) → All P xs → All Q (which t xs)
  unfolding which
  every_which t P Q [] f v = tt
  every_which t P Q (x ∷ xs) f v =
      by_which t (All Q) x xs (λ e. (f x e v.0, every_which t P Q xs f v.1)) (λ e. every_which t P Q xs f v.1)

  pub pairwise_which : (t : A → Bool) (R S : A → A → Type 0) (xs : List A)
      → ((x y : A) → t x ≡ true → t y ≡ true → R x y → S x y) → Pairwise R xs → Pairwise S (which t xs)
  unfolding which
  pairwise_which t R S [] f v = tt
  pairwise_which t R S (x ∷ xs) f v =
      by_which t (Pairwise S) x xs
      (λ e. (every_which t (R x) (S x) xs (λ y d. f x y e d) v.0, pairwise_which t R S xs f v.1))
      (λ e. pairwise_which t R S xs f v.1)

  -- each of them passes
  pub which_pass : (t : A → Bool) (xs : List A) → All (λ x. t x ≡ true) (which t xs)
  which_pass t xs = every_which t (λ x. Unit {0}) (λ x. t x ≡ true) xs (λ x e u. e) (every_of (λ x. Unit {0}) xs (λ x. tt))

  -- some of them are some of the list that pass
  pub which_some : (t : A → Bool) (P : A → Type 0) (xs : List A) → Any P (which t xs) → Any (λ x. (t x ≡ true) × P x) xs
  unfolding which
  which_some t P [] m = m
  which_some t P (x ∷ xs) m =
      by_which t (λ l. Any P l → Any (λ x. (t x ≡ true) × P x) (x ∷ xs)) x xs
      (λ e. ⊎_elim (λ p. inl (e, p)) (λ n. inr (which_some t P xs n)))
      (λ e n. inr (which_some t P xs n)) m

  pub some_which : (t : A → Bool) (P : A → Type 0) (xs : List A) → Any (λ x. (t x ≡ true) × P x) xs → Any P (which t xs)
  some_which t P (x ∷ xs) (inl p) = by_which t (Any P) x xs (λ e. inl p.1) (λ e. never_both p.0 e)
  some_which t P (x ∷ xs) (inr m) = by_which t (Any P) x xs (λ e. inr (some_which t P xs m)) (λ e. some_which t P xs m)
  some_which t P [] x' = elim x' [ ]

  -- every one of them is a P exactly if every element that passes is
  pub every_passes : (t : A → Bool) (P : A → Type 0) (xs : List A) → All P (which t xs) ↔ All (λ x. t x ≡ true → P x) xs
  unfolding which
  every_passes t P [] = (λ v. tt, λ v. tt)
  every_passes t P (x ∷ xs) =
      let ih = every_passes t P xs in
      by_which t (λ l. All P l ↔ All (λ x. t x ≡ true → P x) (x ∷ xs)) x xs
      (λ e. (λ v. (λ d. v.0, ih.0 v.1), λ v. (v.0 e, ih.1 v.1)))
      (λ e. (λ v. (λ d. never_both d e, ih.0 v), λ v. ih.1 v.1))
