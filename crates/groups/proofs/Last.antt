-- One config more at the end, as code that goes from the first to the last meets them. Nothing here has to be believed.
use Rattle.std.specs.Prelude.{◌≡◌, ◌↔◌, Bool, false, ℕ}
use Rattle.std.proofs.Math.Path.{refl, sym, ap}
use Rattle.std.proofs.Common.{◌∙◌, inl, inr, ⊎_elim}
use Rattle.std.proofs.Math.Bool.{true}
use mathlib.Core.List.{List, [], ◌∷◌, ◌++◌}
use Rattle.sets.specs.Lists.{any}
use Rattle.sets.specs.Bools.{bool?, either, neither_left, neither_right}
use Rattle.sets.specs.Config.{Config}
use Rattle.groups.specs.Lists.{Any, which}
use Rattle.groups.specs.Lists.Laws.{rising_unique}
use Rattle.groups.specs.Lists.Tests.{which_yes, which_no}
use Rattle.groups.specs.Groups.{insert, alts_of, firsts}
use Rattle.groups.proofs.Rising.{rising_insert, in_insert, alts_rise, in_alts}
use Rattle.groups.proofs.Firsts.{other}

module _ {A : Type 0} where
  pub some_last : (P : A → Type 0) (xs : List A) (y : A) → Any P (xs ++ (y ∷ [])) ↔ Any P (y ∷ xs)
  some_last P [] y = (λ m. m, λ m. m)
  some_last P (x ∷ xs) y =
      let ih = some_last P xs y in (
        ⊎_elim (λ p. inr (inl p)) (λ m. ⊎_elim inl (λ n. inr (inr n)) (ih.0 m)),
        ⊎_elim (λ p. inr (ih.1 (inl p))) (⊎_elim inl (λ n. inr (ih.1 (inr n)))),
      )

  -- ---- those that pass

  module _ (t : A → Bool) (y : A) where
    pub last_yes : t y ≡ true → (xs : List A) → which t (xs ++ (y ∷ [])) ≡ which t xs ++ (y ∷ [])
    unfolding which
    last_yes e [] = which_yes t y [] e
    last_yes e (x ∷ xs) =
        bool? (t x)
        (λ d. which_yes t x (xs ++ (y ∷ [])) d ∙ ap (λ (l : List A). x ∷ l) (last_yes e xs) ∙ ap (λ (l : List A). l ++ (y ∷ [])) (sym (which_yes t x xs d)))
        (λ d. which_no t x (xs ++ (y ∷ [])) d ∙ last_yes e xs ∙ ap (λ (l : List A). l ++ (y ∷ [])) (sym (which_no t x xs d)))

    pub last_no : t y ≡ false → (xs : List A) → which t (xs ++ (y ∷ [])) ≡ which t xs
    unfolding which
    last_no e [] = which_no t y [] e
    last_no e (x ∷ xs) =
        bool? (t x)
        (λ d. which_yes t x (xs ++ (y ∷ [])) d ∙ ap (λ (l : List A). x ∷ l) (last_no e xs) ∙ sym (which_yes t x xs d))
        (λ d. which_no t x (xs ++ (y ∷ [])) d ∙ last_no e xs ∙ sym (which_no t x xs d))

-- ---- the alternatives

pub alts_last : (cs : List Config) (c : Config) → alts_of (cs ++ (c ∷ [])) ≡ insert c.alternative (alts_of cs)
alts_last cs c =
    let P : ℕ → Config → Type 0 = λ a d. d.alternative ≡ a in
    rising_unique (alts_of (cs ++ (c ∷ []))) (insert c.alternative (alts_of cs)) (alts_rise (cs ++ (c ∷ []))) (rising_insert c.alternative (alts_of cs) (alts_rise cs))
    (λ a m. (in_insert a c.alternative (alts_of cs)).1 (⊎_elim inl (λ n. inr ((in_alts a cs).1 n)) ((some_last (P a) cs c).0 ((in_alts a (cs ++ (c ∷ []))).0 m))))
    (λ a m. (in_alts a (cs ++ (c ∷ []))).1 ((some_last (P a) cs c).1 (⊎_elim inl (λ n. inr ((in_alts a cs).0 n)) ((in_insert a c.alternative (alts_of cs)).0 m))))

-- ---- the first ones: one more, unless one before is alike

module _ (alike : Config → Config → Bool) (c : Config) where
  pub firsts_new : (cs : List Config) → any (λ d. alike d c) cs ≡ false → firsts alike (cs ++ (c ∷ [])) ≡ firsts alike cs ++ (c ∷ [])
  unfolding firsts any which
  firsts_new [] e = refl
  firsts_new (x ∷ cs) e =
      let fs = firsts alike cs in
      ap (λ (l : List Config). x ∷ which (other alike x) l) (firsts_new cs (neither_right (alike x c) _ e))
      ∙ ap (λ (l : List Config). x ∷ l) (last_yes (other alike x) c (rw (neither_left (alike x c) (any (λ d. alike d c) cs) e)) fs)

  pub firsts_old : (cs : List Config) → any (λ d. alike d c) cs ≡ true → firsts alike (cs ++ (c ∷ [])) ≡ firsts alike cs
  unfolding firsts any
  firsts_old [] e = cc
  firsts_old (x ∷ cs) e =
      let fs = firsts alike cs in
      bool? (any (λ d. alike d c) cs)
      (λ h. ap (λ (l : List Config). x ∷ which (other alike x) l) (firsts_old cs h))
      (λ h.
      let s : alike x c ≡ true = either (alike x c) (any (λ d. alike d c) cs) e (λ d. d) (λ d. cc) in
      ap (λ (l : List Config). x ∷ which (other alike x) l) (firsts_new cs h) ∙ ap (λ (l : List Config). x ∷ l) (last_no (other alike x) c (rw s) fs))
