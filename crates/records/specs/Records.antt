-- The alternative of every record, by a walk over the list. Nothing here has to be believed.
use Rattle.std.specs.Prelude.{◌≡◌, refl, Bool, true, false, List, [], ◌∷◌, map, take, ℕ, ◌≤◌, eqb, length, Some, None, slice_get}
use Rattle.std.specs.List.{list_all}
use Rattle.std.specs.Bool.{then_some}
use Rattle.std.proofs.Common.{ap, ◌∙◌, arith, eq-eqb, take_all}
use Rattle.std.proofs.Math.Path.{subst}
use Rattle.words.specs.declared.names.Alternative.{Alternative}
use Rattle.sets.specs.Config.{Config}
use Rattle.sets.specs.Lists.{all}
use Rattle.setcheck.specs.Configs.{config_of}
use Rattle.setcheck.specs.declared.config.AtnConfig.{AtnConfig}
use Rattle.deciding.specs.Answers.{none, agree, unique_alt}
use Rattle.deciding.specs.OneAlt.{one_alt}
use Rattle.deciding.specs.Stops.{eqb_swap}

-- whether each has this alternative
abbrev pub all_have : ℕ → List AtnConfig → Bool
all_have a cs = list_all (λ c. eqb c.alt.0 a) cs

abbrev alts : List AtnConfig → List ℕ
alts cs = map (λ (c : Config). c.alternative) (map config_of cs)

have_alts : (a : ℕ) (cs : List AtnConfig) → all_have a cs ≡ all (eqb a) (alts cs)
unfolding all
have_alts a [] = refl
have_alts a (c ∷ cs) = rw (eqb_swap c.alt.0 a, have_alts a cs)

by_first : (t : Bool) (a : Alternative) (xs : List ℕ) → t ≡ all (eqb a.0) xs → one_alt (then_some t a) ≡ agree (a.0 ∷ xs)
unfolding agree
by_first true a xs e = rw (← e, agree)
by_first false a xs e = rw (← e, agree)

pub unique_none : (cs : List AtnConfig) → length cs ≡ 0 → none ≡ unique_alt (map config_of cs)
unfolding unique_alt agree
unique_none [] e = refl
unique_none (c ∷ cs) e = absurd (omega arith)

pub none_first : (cs : List AtnConfig) → slice_get cs 0 ≡ None → length cs ≡ 0
none_first [] e = refl
none_first (c ∷ cs) e = cc

first_have : (c : AtnConfig) (cs : List AtnConfig) (t : Bool) → t ≡ all_have c.alt.0 (c ∷ cs) → one_alt (then_some t c.alt) ≡ unique_alt (map config_of (c ∷ cs))
unfolding unique_alt
first_have c cs t e = by_first t c.alt (alts cs) (e ∙ rw (eq-eqb c.alt.0 c.alt.0 refl) (have_alts c.alt.0 cs))

-- t is what a walk as far as i, at the end, says
pub unique_some : (cs : List AtnConfig) (x : AtnConfig) → slice_get cs 0 ≡ Some x → (i : ℕ) → length cs ≤ i → (t : Bool) → t ≡ all_have x.alt.0 (take i cs)
    → one_alt (then_some t x.alt) ≡ unique_alt (map config_of cs)
unique_some [] x h i l t e = cc
unique_some (c ∷ cs) x h i l t e =
    let q : c ≡ x = cc in
    subst (λ (y : AtnConfig). t ≡ all_have y.alt.0 (c ∷ cs) → one_alt (then_some t y.alt) ≡ unique_alt (map config_of (c ∷ cs))) q (first_have c cs t)
    (e ∙ ap (all_have x.alt.0) (take_all i (c ∷ cs) l))
