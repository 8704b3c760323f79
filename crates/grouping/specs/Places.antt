-- The configs of a set's words, by their places. Nothing here has to be believed.
use Rattle.std.proofs.Math.Logic.{inl, inr, ⊎_elim}
use Rattle.std.specs.Prelude.{◌↔◌, List, [], ◌∷◌, ◌++◌}
use Prim.Native.Nat.{ℕ, zero, suc, ◌<◌}
use native.Mathlib.Omega.{arith}
use Rattle.words.specs.Numbers.{two}
use Rattle.groups.specs.Config.{Config}
use Rattle.groups.specs.Layout.{config_at}
use Rattle.groups.specs.Words.{configs_in}
use Rattle.groups.specs.Lists.{Any, All}
use Rattle.groups.proofs.Last.{some_last}

every_last : {A : Type 0} (P : A → Type 0) (xs : List A) (y : A) → All P (xs ++ (y ∷ [])) ↔ (All P xs × P y)
every_last P [] y = (λ v. (tt, v.0), λ v. (v.1, tt))
every_last P (x ∷ xs) y =
    let ih = every_last P xs y in
    (λ v. let r = ih.0 v.1 in ((v.0, r.0), r.1), λ v. (v.0.0, ih.1 (v.0.1, v.1)))

module _ (v : List ℕ) (P : Config → Type 0) where
  pub some_place : (n : ℕ) → Any P (configs_in v n) → (i : ℕ) × (i < n) × P (config_at v i)
  unfolding configs_in
  some_place zero m = absurd m
  some_place (suc n) m =
      ⊎_elim
      (λ p. (n, omega arith, p))
      (λ k. let r = some_place n k in (r.0, omega (arith, r.1), r.2))
      ((some_last P (configs_in v n) (config_at v n)).0 m)

  pub place_some : (n i : ℕ) → i < n → P (config_at v i) → Any P (configs_in v n)
  unfolding configs_in
  place_some zero i h p = absurd (omega arith)
  place_some (suc n) i h p =
      (some_last P (configs_in v n) (config_at v n)).1 (two i n (λ e. inl (rw e at p)) (λ d. inr (place_some n i (omega arith) p)))

  pub every_place : (n : ℕ) → All P (configs_in v n) → (i : ℕ) → i < n → P (config_at v i)
  unfolding configs_in
  every_place zero w i h = absurd (omega arith)
  every_place (suc n) w i h =
      let r = (every_last P (configs_in v n) (config_at v n)).0 w in
      two i n (λ e. rw e r.1) (λ d. every_place n r.0 i (omega arith))

  pub place_every : (n : ℕ) → ((i : ℕ) → i < n → P (config_at v i)) → All P (configs_in v n)
  unfolding configs_in
  place_every zero f = tt
  place_every (suc n) f = (every_last P (configs_in v n) (config_at v n)).1 (place_every n (λ i h. f i (omega arith)), f n (omega arith))
