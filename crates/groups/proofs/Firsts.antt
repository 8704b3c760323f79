-- The first of the configs that are alike: which they are, and in which order. Nothing here has to be believed.
use Rattle.std.specs.Prelude.{◌≡◌, refl, Bool, true, false, not, eqb}
use Rattle.std.proofs.Common.{sym, ◌∙◌}
use Rattle.std.proofs.Math.Path.{fun_ext}
use Rattle.std.proofs.Math.Logic.{inl, inr, ⊎_elim}
use mathlib.Core.List.{List, [], ◌∷◌}
use borrow.Author.Tests.{eqb-true, eq-eqb, not-true}
use Rattle.sets.specs.Config.{Config}
use Rattle.sets.specs.Bools.{bool?, never_both, bool_iff, both_true}
use Rattle.groups.specs.Lists.{Any, All, Pairwise, Before, which}
use Rattle.groups.specs.Lists.Laws.{some_map, some_in, in_some, every_map, every_in, in_every, every_of}
use Rattle.groups.specs.Lists.Tests.{and_true, every_which, pairwise_which, which_pass, which_some, some_which}
use Rattle.groups.specs.Groups.{together, firsts}

-- ---- being alike

pub record Likeness (alike : Config → Config → Bool) : Type 0 where
  pub self : (c : Config) → alike c c ≡ true
  pub swap : (c d : Config) → alike c d ≡ true → alike d c ≡ true
  pub next : (c d e : Config) → alike c d ≡ true → alike d e ≡ true → alike c e ≡ true

pub together_true : (c d : Config) → together c d ≡ true → (c.state ≡ d.state) × (c.context ≡ d.context)
unfolding together
together_true c d e =
    let h = and_true (eqb c.state d.state) (eqb c.context d.context) e in
    (eqb-true c.state d.state h.0, eqb-true c.context d.context h.1)

pub true_together : (c d : Config) → (c.state ≡ d.state) × (c.context ≡ d.context) → together c d ≡ true
unfolding together
true_together c d e = both_true (eqb c.state d.state) (eqb c.context d.context) (eq-eqb _ _ e.0) (eq-eqb _ _ e.1)

pub together_kind : Likeness together
together_kind = record {
  self = λ c. true_together c c (refl, refl);
  swap = λ c d h. let p = together_true c d h in true_together d c (sym p.0, sym p.1);
  next = λ c d e h k. let p = together_true c d h in let q = together_true d e k in true_together c e (p.0 ∙ q.0, p.1 ∙ q.1);
}

-- ---- the first ones

module _ (alike : Config → Config → Bool) where
  -- d is not alike to c
  abbrev pub other : Config → Config → Bool
  other c d = not (alike c d)

  -- they are among all
  pub every_firsts : (P : Config → Type 0) (cs : List Config) → All P cs → All P (firsts alike cs)
  unfolding firsts
  every_firsts P [] v = tt
  every_firsts P (c ∷ cs) v = (v.0, every_which (other c) P P (firsts alike cs) (λ x e p. p) (every_firsts P cs v.1))

  pub firsts_some : (P : Config → Type 0) (cs : List Config) → Any P (firsts alike cs) → Any P cs
  unfolding firsts
  firsts_some P [] m = m
  firsts_some P (c ∷ cs) m =
      ⊎_elim inl (λ n. inr (firsts_some P cs (some_map _ P (firsts alike cs) (λ x p. p.1) (which_some (other c) P (firsts alike cs) n)))) m

  -- what holds of a config holds of the first that is alike
  pub some_firsts : (P : Config → Type 0) (cs : List Config) → ((c d : Config) → alike c d ≡ true → P d → P c) → Any P cs → Any P (firsts alike cs)
  unfolding firsts
  some_firsts P (c ∷ cs) f (inl p) = inl p
  some_firsts P (c ∷ cs) f (inr m) =
      let s = some_in P (firsts alike cs) (some_firsts P cs f m) in
      bool? (alike c s.0)
      (λ e. inl (f c s.0 e s.2))
      (λ e. inr (some_which (other c) P (firsts alike cs) (in_some (λ x. (other c x ≡ true) × P x) (firsts alike cs) s.0 s.1 (rw e, s.2))))
  some_firsts P [] f x'' = elim x'' [ ]

  -- no two are alike
  pub firsts_once : (cs : List Config) → Pairwise (λ c d. alike c d ≡ false) (firsts alike cs)
  unfolding firsts
  firsts_once [] = tt
  firsts_once (c ∷ cs) = (
    every_map (λ d. other c d ≡ true) (λ d. alike c d ≡ false) (which (other c) (firsts alike cs)) (λ d e. not-true (alike c d) e) (which_pass (other c) (firsts alike cs)),
    pairwise_which (other c) (λ d e. alike d e ≡ false) (λ d e. alike d e ≡ false) (firsts alike cs) (λ d e p q h. h) (firsts_once cs),
  )

  module _ (K : Likeness alike) where
    -- what holds of the first holds of those that are alike
    pub firsts_every : (P : Config → Type 0) (cs : List Config) → ((c d : Config) → alike c d ≡ true → P c → P d) → All P (firsts alike cs) → All P cs
    firsts_every P cs f v =
        in_every P cs λ c m.
        let Same : Config → Type 0 = λ d. alike d c ≡ true in
        let s = some_in Same (firsts alike cs) (some_firsts Same cs (λ d e h k. K.next d e c h k) (in_some Same cs c m (K.self c))) in
        f s.0 c s.2 (every_in P (firsts alike cs) v s.0 s.1)

    -- those alike to two that are alike are the same
    pub same_kind : (c d : Config) → alike c d ≡ true → alike c ≡ alike d
    same_kind c d h = fun_ext (λ e. bool_iff (alike c e) (alike d e) (λ k. K.next d c e (K.swap c d h) k) (λ k. K.next c d e h k))

    abbrev Ahead : List Config → Config → Config → Type 0
    Ahead cs c d = Before (λ e. alike c e ≡ true) (λ e. alike d e ≡ true) cs

    -- they stand in order
    pub firsts_order : (cs : List Config) → Pairwise (Ahead cs) (firsts alike cs)
    unfolding firsts
    firsts_order [] = tt
    firsts_order (c ∷ cs) = (
      every_of (Ahead (c ∷ cs) c) (which (other c) (firsts alike cs)) (λ d. inl (K.self c)),
      pairwise_which (other c) (Ahead cs) (Ahead (c ∷ cs)) (firsts alike cs)
          (λ d e p q h. inr (λ k. never_both (K.swap e c k) (not-true (alike c e) q), h)) (firsts_order cs),
    )
