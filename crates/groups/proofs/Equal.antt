-- `all_subsets_equal` says yes exactly if any two subsets have the same alternatives. Nothing here has to be believed.
use Rattle.std.specs.Prelude.{◌≡◌, ◌↔◌, true, List, ℕ, eqb}
use Rattle.std.proofs.Common.{sym, subst, eqb-true, eq-eqb}
use Rattle.sets.specs.Config.{Config}
use Rattle.sets.specs.Lists.{any}
use Rattle.groups.specs.Lists.{All, In, Rising}
use Rattle.groups.specs.Lists.Laws.{every_map, every_in, in_every, rising_unique}
use Rattle.groups.specs.Lists.Tests.{any_exact, all_exact}
use Rattle.groups.specs.Groups.{Group, groups}
use Rattle.groups.specs.Answers.{within, all_subsets_equal}
use Rattle.groups.specs.Sentences.{AllEqual}
use Rattle.groups.proofs.Rules.{subsets}

-- is a in the list?
pub in_exact : (a : ℕ) (xs : List ℕ) → (any (eqb a) xs ≡ true) ↔ In a xs
in_exact a xs = any_exact (eqb a) (λ x. x ≡ a) xs (λ x. (λ e. sym (eqb-true a x e), λ e. eq-eqb a x (sym e)))

-- every alternative of g is one of h
abbrev Within : Group → Group → Type 0
Within g h = All (λ a. In a h.alternatives) g.alternatives

within_exact : (g h : Group) → (within g h ≡ true) ↔ Within g h
unfolding within
within_exact g h = all_exact _ (λ a. In a h.alternatives) g.alternatives (λ a. in_exact a h.alternatives)

module _ (cs : List Config) where
  abbrev AllWithin : Type 0
  AllWithin = All (λ g. All (Within g) (groups cs)) (groups cs)

  all_within : (all_subsets_equal cs ≡ true) ↔ AllWithin
  unfolding all_subsets_equal
  all_within = all_exact _ (λ g. All (Within g) (groups cs)) (groups cs) (λ g. all_exact (within g) (Within g) (groups cs) (within_exact g))

  -- `all_subsets_equal` says yes exactly if any two subsets have the same alternatives
  pub equal_exact : (all_subsets_equal cs ≡ true) ↔ AllEqual (groups cs)
  equal_exact =
      let gs = groups cs in
      let rises : (g : Group) → In g gs → Rising g.alternatives = every_in _ gs (subsets cs).rising in (
        λ e.
            let go : (g h : Group) → In g gs → In h gs → Within g h = λ g h m n. every_in (Within g) gs (every_in _ gs (all_within.0 e) g m) h n in
            in_every (λ g. All (λ h. g.alternatives ≡ h.alternatives) gs) gs λ g m.
            in_every (λ h. g.alternatives ≡ h.alternatives) gs λ h n.
            rising_unique g.alternatives h.alternatives (rises g m) (rises h n) (every_in _ g.alternatives (go g h m n)) (every_in _ h.alternatives (go h g n m)),
        λ v. all_within.1 (every_map (λ g. All (λ h. g.alternatives ≡ h.alternatives) gs) (λ g. All (Within g) gs) gs
            (λ g w. every_map (λ h. g.alternatives ≡ h.alternatives) (Within g) gs (λ h e. in_every _ g.alternatives (λ a m. subst (In a) e m)) w) v),
      )
