-- The output's words are as many as are lent. Nothing here has to be believed.
use Rattle.std.specs.Prelude.{◌≡◌, refl, ℕ, ◌≤◌, ◌+◌, ◌*◌, ◌-◌, length}
use mathlib.Core.List.{List, [], ◌∷◌, flat_map}
use Rattle.std.proofs.Common.{arith, length-append}
use Rattle.std.proofs.lemmas.List.{length-replicate}
use Rattle.groups.specs.LayoutLayout.{blank}
use Rattle.groups.specs.Config.{Config}
use Rattle.groups.specs.Layout.{most_configs}
use Rattle.groups.specs.Groups.{Group, groups}
use Rattle.groups.specs.Answers.{conflicting_alts}
use Rattle.groups.proofs.Room.{total, groups_fit, conflicting_most}
use Rattle.outputs.specs.Outputs.{subsets_length, alts_length, padded, group_words, subsets_words, alts_words}

pub padded_length : (n : ℕ) (xs : List ℕ) → length xs ≤ n → length (padded n xs) ≡ n
unfolding padded blank
padded_length n xs h = omega (arith, length-append xs (blank (n - length xs)), length-replicate {A = ℕ} (n - length xs) 0)

pub all_words : (gs : List Group) → length (flat_map group_words gs) ≡ 3 * length gs + total gs
unfolding flat_map group_words total
all_words [] = refl
all_words (g ∷ gs) = omega (arith, length-append g.alternatives (flat_map group_words gs), all_words gs)

pub subsets_length_lem : (cs : List Config) → length cs ≤ most_configs → length (subsets_words cs) ≡ subsets_length
unfolding subsets_words
subsets_length_lem cs h = padded_length subsets_length (length (groups cs) ∷ flat_map group_words (groups cs)) (omega (arith, all_words (groups cs), groups_fit cs h))

pub alts_length_lem : (cs : List Config) → length cs ≤ most_configs → length (alts_words cs) ≡ alts_length
unfolding alts_words
alts_length_lem cs h = padded_length alts_length (length (conflicting_alts cs) ∷ conflicting_alts cs) (omega (arith, conflicting_most cs))
