-- First configs that are marked by a config of their kind. Nothing here has to be believed.
pub mod Laws
use Rattle.std.specs.Prelude.{◌≡◌, ◌⊎◌, Bool, true, false, ◌&&◌, not, List, ℕ, ◌<◌, ◌≤◌, ◌+◌, eqb, length, get_or, set}
use Rattle.encoding.specs.Layout.{scratch_words}
use Rattle.groups.specs.Config.{Config}
use Rattle.groups.specs.Layout.{config_at, config_count}
use Rattle.groups.specs.SetsLists.{any, all}
use Rattle.grouping.specs.Alike.{alike_of}
use Rattle.grouping.specs.Led.{leaders_at, marks_at, Lent}
use Rattle.grouping.specs.declared.inner.traits.Alike.{Alike}
use Rattle.grouping.specs.declared.inner.marks.Picks.{Picks}
use Rattle.grouping.specs.declared.inner.marks.Picks.TheVariants.{Rivals, Holders}

-- is d picked, c being the config that it is alike to?
abbrev pub picks : Picks → Config → Config → Bool
picks Rivals c d = not (eqb d.alternative c.alternative)
picks (Holders a) c d = eqb d.alternative a.0

-- has every config one alike that is picked?
unfoldable pub each_picked : Alike → Picks → List Config → Bool
each_picked k p cs = all (λ c. any (λ d. alike_of k c d && picks p c d) cs) cs

-- the first one of config i
abbrev pub leader_at : List ℕ → ℕ → ℕ
leader_at z i = get_or z (leaders_at + i) 0

abbrev pub mark_at : List ℕ → ℕ → ℕ
mark_at z l = get_or z (marks_at + l) 0

-- the words with l marked, if it is to be
unfoldable pub marked_if : Bool → List ℕ → ℕ → List ℕ
marked_if found z l = elim found [ true ↦ set z (marks_at + l) 1 | false ↦ z ]

-- each config has a first one
pub record Markable (v z : List ℕ) : Type 0 where
  pub words : Lent v z
  pub early : (i : ℕ) → i < config_count v → leader_at z i ≤ i

-- the first n configs have marked: z is the scratch before, u after
pub record Marked (v : List ℕ) (p : Picks) (n : ℕ) (z u : List ℕ) : Type 0 where
  pub lent : length u ≡ scratch_words
  pub same : (j : ℕ) → j < marks_at → get_or u j 0 ≡ get_or z j 0
  pub hit : (i : ℕ) → i < n → picks p (config_at v (leader_at z i)) (config_at v i) ≡ true → mark_at u (leader_at z i) ≡ 1
  pub only : (l : ℕ) → l < config_count v → (mark_at u l ≡ 0) ⊎ ((i : ℕ) × (i < n) × (leader_at z i ≡ l) × (picks p (config_at v l) (config_at v i) ≡ true))
