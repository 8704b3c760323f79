-- Configs that are alike make up the whole list: how many there are, and what is left without those of one kind. Nothing here has to be believed.
use Rattle.std.specs.Prelude.{◌≡◌, Bool}
use Rattle.std.proofs.Math.Path.{refl, sym, ap}
use Rattle.std.proofs.Common.{ap₂, ◌∙◌}
use Rattle.std.proofs.Math.Bool.{true, not}
use mathlib.Core.List.{List, [], ◌∷◌}
use Prim.Native.Nat.{ℕ, zero, suc, ◌≤◌, ◌+◌}
use native.Mathlib.Omega.{arith}
use Rattle.std.proofs.Math.ListN.{length}
use Rattle.std.proofs.lemmas.Bool.{not-true}
use Rattle.sets.specs.Config.{Config}
use Rattle.sets.specs.Bools.{bool?, never_both, is_false}
use Rattle.groups.specs.Lists.{All, which}
use Rattle.groups.specs.Lists.Laws.{every_map}
use Rattle.groups.specs.Lists.Tests.{which_yes, which_no, which_pass}
use Rattle.groups.specs.Groups.{firsts}
use Rattle.groups.proofs.Firsts.{Likeness, other, same_kind}

-- ---- tests one after the other

module _ {A : Type 0} where
  -- the first test changes nothing where the second would drop the same and more
  pub which_weaker : (t u : A → Bool) → ((x : A) → t x ≡ true → u x ≡ true) → (xs : List A) → which t (which u xs) ≡ which t xs
  unfolding which
  which_weaker t u f [] = refl
  which_weaker t u f (x ∷ xs) =
      bool? (u x)
      (λ e. ap (which t) (which_yes u x xs e) ∙ bool? (t x)
      (λ d. which_yes t x (which u xs) d ∙ ap (λ (l : List A). x ∷ l) (which_weaker t u f xs) ∙ sym (which_yes t x xs d))
      (λ d. which_no t x (which u xs) d ∙ which_weaker t u f xs ∙ sym (which_no t x xs d)))
      (λ e. ap (which t) (which_no u x xs e) ∙ which_weaker t u f xs ∙ sym (which_no t x xs (is_false (t x) (λ d. never_both (f x d) e))))

  pub which_swap : (t u : A → Bool) (xs : List A) → which t (which u xs) ≡ which u (which t xs)
  unfolding which
  which_swap t u [] = refl
  which_swap t u (x ∷ xs) =
      bool? (t x)
      (λ e. bool? (u x)
      (λ f. ap (which t) (which_yes u x xs f) ∙ which_yes t x (which u xs) e ∙ ap (λ (l : List A). x ∷ l) (which_swap t u xs)
      ∙ sym (which_yes u x (which t xs) f) ∙ ap (which u) (sym (which_yes t x xs e)))
      (λ f. ap (which t) (which_no u x xs f) ∙ which_swap t u xs ∙ sym (which_no u x (which t xs) f) ∙ ap (which u) (sym (which_yes t x xs e))))
      (λ e. bool? (u x)
      (λ f. ap (which t) (which_yes u x xs f) ∙ which_no t x (which u xs) e ∙ which_swap t u xs ∙ ap (which u) (sym (which_no t x xs e)))
      (λ f. ap (which t) (which_no u x xs f) ∙ which_swap t u xs ∙ ap (which u) (sym (which_no t x xs e))))

  -- those that pass, and those that do not, are all
  pub which_both : (t : A → Bool) (xs : List A) → length (which t xs) + length (which (λ x. not (t x)) xs) ≡ length xs
  unfolding which
  which_both t [] = refl
  which_both t (x ∷ xs) =
      let ih = which_both t xs in
      bool? (t x)
      (λ e. let a = ap length (which_yes t x xs e) in let b = ap length (which_no (λ x. not (t x)) x xs (rw e)) in omega (arith, ih, a, b))
      (λ e. let a = ap length (which_no t x xs e) in let b = ap length (which_yes (λ x. not (t x)) x xs (rw e)) in omega (arith, ih, a, b))

-- ---- without those of one kind

module _ (alike : Config → Config → Bool) (K : Likeness alike) where
  pub firsts_other : (c : Config) (cs : List Config) → firsts alike (which (other alike c) cs) ≡ which (other alike c) (firsts alike cs)
  unfolding firsts which
  firsts_other c [] = refl
  firsts_other c (d ∷ cs) =
      let fs = firsts alike cs in
      bool? (alike c d)
      (λ e.
      ap (firsts alike) (which_no (other alike c) d cs (rw e)) ∙ firsts_other c cs
      ∙ sym (which_weaker (other alike c) (other alike d) (λ x h. rw (same_kind alike K c d e) at h) fs)
      ∙ sym (which_no (other alike c) d (which (other alike d) fs) (rw e)))
      (λ e.
      ap (firsts alike) (which_yes (other alike c) d cs (rw e))
      ∙ ap (λ (l : List Config). d ∷ which (other alike d) l) (firsts_other c cs)
      ∙ ap (λ (l : List Config). d ∷ l) (which_swap (other alike d) (other alike c) fs)
      ∙ sym (which_yes (other alike c) d (which (other alike d) fs) (rw e)))

-- ---- sums

unfoldable pub sum : (Config → ℕ) → List Config → ℕ
sum f [] = 0
sum f (c ∷ cs) = f c + sum f cs

pub sum_same : (f g : Config → ℕ) (cs : List Config) → All (λ c. f c ≡ g c) cs → sum f cs ≡ sum g cs
unfolding sum
sum_same f g [] v = refl
sum_same f g (c ∷ cs) v = ap₂ ◌+◌ v.0 (sum_same f g cs v.1)

pub sum_less : (f g : Config → ℕ) (cs : List Config) → ((c : Config) → f c ≤ g c) → sum f cs ≤ sum g cs
unfolding sum
sum_less f g [] h = omega arith
sum_less f g (c ∷ cs) h = omega (arith, h c, sum_less f g cs h)

-- ---- The configs of each kind, summed up, are all.

module _ (alike : Config → Config → Bool) (K : Likeness alike) where
  parts_of : (n : ℕ) (cs : List Config) → length cs ≤ n → sum (λ c. length (which (alike c) cs)) (firsts alike cs) ≡ length cs
  unfolding firsts sum
  parts_of zero [] h = refl
  parts_of zero (c ∷ cs) h = absurd (omega arith)
  parts_of (suc n) [] h = refl
  parts_of (suc n) (c ∷ cs) h =
      let rest = which (other alike c) cs in
      let l = which_both (alike c) cs in
      let here = ap length (which_yes (alike c) c cs (K.self c)) in
      let there : sum (λ d. length (which (alike d) (c ∷ cs))) (which (other alike c) (firsts alike cs)) ≡ length rest =
      sum_same _ (λ d. length (which (alike d) rest)) (which (other alike c) (firsts alike cs))
      (every_map (λ d. other alike c d ≡ true) _ (which (other alike c) (firsts alike cs))
      (λ d e.
      let apart : (x : Config) → alike d x ≡ true → other alike c x ≡ true =
      λ x p. rw (is_false (alike c x) (λ q. never_both (K.next c x d q (K.swap d x p)) (not-true (alike c d) e))) in
      ap length (which_no (alike d) c cs (is_false (alike d c) (λ q. never_both (K.swap d c q) (not-true (alike c d) e))))
      ∙ ap length (sym (which_weaker (alike d) (other alike c) apart cs)))
      (which_pass (other alike c) (firsts alike cs)))
      ∙ ap (sum (λ d. length (which (alike d) rest))) (sym (firsts_other alike K c cs))
      ∙ parts_of n rest (omega arith) in
      omega (arith, here, there, l)

  pub parts : (cs : List Config) → sum (λ c. length (which (alike c) cs)) (firsts alike cs) ≡ length cs
  parts cs = parts_of (length cs) cs (omega arith)

  pub firsts_most : (cs : List Config) → length (firsts alike cs) ≤ length cs
  unfolding firsts
  firsts_most [] = omega arith
  firsts_most (c ∷ cs) = let l = which_both (alike c) (firsts alike cs) in omega (arith, firsts_most cs, l)
