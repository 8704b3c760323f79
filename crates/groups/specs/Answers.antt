-- To believe: the answers on a set's configs, named as in the Rust.
use Rattle.std.specs.Prelude.{Bool, true, false, ◌&&◌, ◌||◌, not, ℕ, eqb, ltb, length, get_or}
use mathlib.Core.List.{List, [], ◌∷◌, map, flat_map}
use Rattle.sets.specs.Config.{Config}
use Rattle.sets.specs.Lists.{any, all}
use Rattle.groups.specs.Lists.{which}
use Rattle.groups.specs.Groups.{Group, rising, groups}

-- ---- of the subsets

-- two or more alternatives
unfoldable pub many : Group → Bool
many g = ltb 1 (length g.alternatives)

-- "the union of the groups with two or more", rising
unfoldable pub conflicting_alts : List Config → List ℕ
conflicting_alts cs = rising (flat_map (λ (g : Group). g.alternatives) (which many (groups cs)))

unfoldable pub all_subsets_conflict : List Config → Bool
all_subsets_conflict cs = all many (groups cs)

-- every alternative of g is one of h
unfoldable pub within : Group → Group → Bool
within g h = all (λ a. any (eqb a) h.alternatives) g.alternatives

unfoldable pub all_subsets_equal : List Config → Bool
all_subsets_equal cs = all (λ g. all (within g) (groups cs)) (groups cs)

-- ---- one alternative, or none

pub data Answer : Type 0 where
  none : Answer
  only : ℕ → Answer

-- the number that all are
unfoldable pub agree : List ℕ → Answer
agree [] = none
agree (x ∷ xs) = elim (all (eqb x) xs) [ true ↦ only x | false ↦ none ]

-- the smallest alternative: the first, as they rise
unfoldable pub smallest : Group → ℕ
smallest g = get_or g.alternatives 0 0

unfoldable pub single_viable_alt : List Config → Answer
single_viable_alt cs = agree (map smallest (groups cs))

unfoldable pub unique_alt : List Config → Answer
unique_alt cs = agree (map (λ (c : Config). c.alternative) cs)

-- ---- the verdict

-- every config is in a listed stop state
unfoldable pub stopped : List ℕ → List Config → Bool
stopped stops cs = all (λ (c : Config). any (eqb c.state) stops) cs

-- the state of c has just one alternative: every config in it has that of c
unfoldable pub just_one : List Config → Config → Bool
just_one cs c = all (λ (d : Config). eqb d.alternative c.alternative) (which (λ d. eqb d.state c.state) cs)

unfoldable pub verdict : List ℕ → List Config → Bool
verdict stops cs = stopped stops cs || (any many (groups cs) && not (any (just_one cs) cs))
