-- To believe: the words of the subsets and of the conflicting alternatives.
pub mod Laws
use mathlib.Core.List.{List, ◌∷◌, ◌++◌, flat_map}
use Rattle.std.specs.Prelude.{ℕ, ◌-◌, length}
use Rattle.groups.specs.LayoutLayout.{blank}
use Rattle.groups.specs.Config.{Config}
use Rattle.groups.specs.Groups.{Group, groups}
use Rattle.groups.specs.Answers.{conflicting_alts}

abbrev pub subsets_length : ℕ
subsets_length = 1025

abbrev pub alts_length : ℕ
alts_length = 257

-- zeros up to n words
unfoldable pub padded : ℕ → List ℕ → List ℕ
padded n xs = xs ++ blank (n - length xs)

-- "per group state, context, alternative count, alternatives"
unfoldable pub group_words : Group → List ℕ
group_words g = g.state ∷ g.context ∷ length g.alternatives ∷ g.alternatives

-- "group count, then per group ..; rest 0"
unfoldable pub subsets_words : List Config → List ℕ
subsets_words cs = padded subsets_length (length (groups cs) ∷ flat_map group_words (groups cs))

-- "count, alternatives rising, rest 0"
unfoldable pub alts_words : List Config → List ℕ
alts_words cs = padded alts_length (length (conflicting_alts cs) ∷ conflicting_alts cs)
