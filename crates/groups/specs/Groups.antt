-- To believe: the subsets that configs fall into.
use Rattle.std.specs.Prelude.{Bool, true, false, ◌&&◌, not, List, [], ◌∷◌, map, ℕ, eqb, ltb}
use Rattle.sets.specs.Config.{Config}
use Rattle.groups.specs.Lists.{which}

-- a subset: the alternatives of one state and one context
pub record Group : Type 0 where
  pub state : ℕ
  pub context : ℕ
  pub alternatives : List ℕ

-- a put among rising numbers, unless it is there
unfoldable pub insert : ℕ → List ℕ → List ℕ
insert a [] = a ∷ []
insert a (x ∷ xs) = elim (ltb a x) [ true ↦ a ∷ x ∷ xs | false ↦ elim (eqb a x) [ true ↦ x ∷ xs | false ↦ x ∷ insert a xs ] ]

-- the numbers of a list, rising
unfoldable pub rising : List ℕ → List ℕ
rising [] = []
rising (x ∷ xs) = insert x (rising xs)

-- the alternatives of configs, rising
unfoldable pub alts_of : List Config → List ℕ
alts_of cs = rising (map (λ (c : Config). c.alternative) cs)

-- one state and one context
unfoldable pub together : Config → Config → Bool
together c d = eqb c.state d.state && eqb c.context d.context

-- of the configs that are alike the first, in order
unfoldable pub firsts : (Config → Config → Bool) → List Config → List Config
firsts alike [] = []
firsts alike (c ∷ cs) = c ∷ which (λ d. not (alike c d)) (firsts alike cs)

-- the subset that c falls into
unfoldable pub subset : List Config → Config → Group
subset cs c = record { state = c.state; context = c.context; alternatives = alts_of (which (together c) cs) }

-- "Subsets: configs grouped by state and context, in order of each group's first config, alternatives rising"
unfoldable pub groups : List Config → List Group
groups cs = map (subset cs) (firsts together cs)
