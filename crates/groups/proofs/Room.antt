-- The words that are lent are enough: 1,025 for the subsets of 256 configs, 257 for the conflicting alternatives. Nothing here has to be believed.
use Rattle.std.specs.Prelude.{◌≡◌, refl, Bool, List, [], ◌∷◌, map, ℕ, ◌≤◌, ◌+◌, ◌*◌, length}
use Rattle.std.proofs.Common.{ap, arith}
use Rattle.std.proofs.lemmas.List.{length-map}
use Rattle.sets.specs.Config.{Config}
use Rattle.groups.specs.Lists.{which}
use Rattle.groups.specs.Groups.{Group, alts_of, together, firsts, subset, groups}
use Rattle.groups.specs.Answers.{many, conflicting_alts}
use Rattle.groups.proofs.Rising.{alts_most}
use Rattle.groups.proofs.Firsts.{together_kind}
use Rattle.groups.proofs.Conflicts.{conflicting_configs}
use Rattle.groups.proofs.Parts.{which_both, sum, sum_less, parts, firsts_most}

-- the alternatives of all groups, counted
unfoldable pub total : List Group → ℕ
total [] = 0
total (g ∷ gs) = length g.alternatives + total gs

pub total_sum : (cs ds : List Config) → total (map (subset cs) ds) ≡ sum (λ c. length (subset cs c).alternatives) ds
unfolding total sum
total_sum cs [] = refl
total_sum cs (d ∷ ds) = ap (λ (n : ℕ). length (subset cs d).alternatives + n) (total_sum cs ds)

pub groups_most : (cs : List Config) → length (groups cs) ≤ length cs
unfolding groups
groups_most cs = omega (arith, length-map (firsts together cs) (subset cs), firsts_most together together_kind cs)

pub total_most : (cs : List Config) → total (groups cs) ≤ length cs
unfolding groups subset
total_most cs =
    let few = sum_less (λ c. length (alts_of (which (together c) cs))) (λ c. length (which (together c) cs)) (firsts together cs) (λ c. alts_most (which (together c) cs)) in
    omega (arith, total_sum cs (firsts together cs), few, parts together together_kind cs)

-- "They are written to 1,025 words: group count, then per group state, context, alternative count, alternatives"
pub groups_fit : (cs : List Config) → length cs ≤ 256 → 1 + 3 * length (groups cs) + total (groups cs) ≤ 1025
groups_fit cs h = omega (arith, groups_most cs, total_most cs)

-- "`conflicting_alts` .. goes to 257 words: count, alternatives rising"
pub conflicting_most : (cs : List Config) → length (conflicting_alts cs) ≤ length cs
conflicting_most cs =
    let t : Config → Bool = λ c. many (subset cs c) in
    omega (arith, ap length (conflicting_configs cs), alts_most (which t cs), which_both t cs)
