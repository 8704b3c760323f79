-- To believe: document 01's sentences on subsets, alternatives and the verdict, about membership alone.
use Rattle.std.specs.Prelude.{◌≡◌, ◌⊎◌, ◌↔◌, List, ℕ, ◌≤◌, length}
use Rattle.sets.specs.Config.{Config}
use Rattle.groups.specs.Lists.{Any, All, In, Pairwise, Before, Rising}
use Rattle.groups.specs.Groups.{Group}
use Rattle.groups.specs.Answers.{Answer, only}

-- the config is in state s with context k
abbrev pub AtPlace : ℕ → ℕ → Config → Type 0
AtPlace s k c = (c.state ≡ s) × (c.context ≡ k)

-- the group is that of state s and context k
abbrev pub For : ℕ → ℕ → Group → Type 0
For s k g = (g.state ≡ s) × (g.context ≡ k)

-- "Subsets: configs grouped by state and context, in order of each group's first config, alternatives rising"
pub record Subsets (cs : List Config) (gs : List Group) : Type 0 where
  -- a state and a context have a group exactly if some config has both
  pub each : (s k : ℕ) → Any (For s k) gs ↔ Any (AtPlace s k) cs
  -- and one only
  pub once : Pairwise (λ g h. For g.state g.context h → ⊥) gs
  -- an alternative is in a group exactly if some config has state, context and it
  pub exact : All (λ g. (a : ℕ) → In a g.alternatives ↔ Any (λ c. AtPlace g.state g.context c × (c.alternative ≡ a)) cs) gs
  -- alternatives rise
  pub rising : All (λ g. Rising g.alternatives) gs
  -- a group stands before another if a config of it comes before every config of the other
  pub order : Pairwise (λ g h. Before (AtPlace g.state g.context) (AtPlace h.state h.context) cs) gs

-- two or more alternatives
abbrev pub Many : Group → Type 0
Many g = 2 ≤ length g.alternatives

-- "the union of the groups with two or more .. alternatives rising"
pub record ConflictUnion (gs : List Group) (xs : List ℕ) : Type 0 where
  pub exact : (a : ℕ) → In a xs ↔ Any (λ g. Many g × In a g.alternatives) gs
  pub rising : Rising xs

-- any two subsets have the same alternatives
abbrev pub AllEqual : List Group → Type 0
AllEqual gs = All (λ g. All (λ h. g.alternatives ≡ h.alternatives) gs) gs

-- a is the smallest alternative of a group
abbrev pub Smallest : ℕ → Group → Type 0
Smallest a g = In a g.alternatives × All (λ b. a ≤ b) g.alternatives

-- a is the smallest alternative of every group, and there is one
abbrev pub Viable : List Group → ℕ → Type 0
Viable gs a = Any (Smallest a) gs × All (Smallest a) gs

-- every config has alternative a, and there is one
abbrev pub Unique : List Config → ℕ → Type 0
Unique cs a = Any (λ c. c.alternative ≡ a) cs × All (λ c. c.alternative ≡ a) cs

-- the answer is `only a` exactly for the a that is meant; so it is `none` where there is no such a
abbrev pub Says : (ℕ → Type 0) → Answer → Type 0
Says P r = (a : ℕ) → (r ≡ only a) ↔ P a

-- ---- "Verdict"

-- "every config is in a listed stop state"
abbrev pub Stopped : List ℕ → List Config → Type 0
Stopped stops cs = All (λ c. In c.state stops) cs

-- "some subset has two or more alternatives": two configs of one state and context differ in their alternatives
abbrev pub Conflict : List Config → Type 0
Conflict cs = Any (λ c. Any (λ d. AtPlace c.state c.context d × (d.alternative ≡ c.alternative → ⊥)) cs) cs

-- the state of c has just one alternative: every config in it has that of c
abbrev pub JustOne : List Config → Config → Type 0
JustOne cs c = All (λ d. d.state ≡ c.state → d.alternative ≡ c.alternative) cs

-- "yes if every config is in a listed stop state, an empty set included. Else yes exactly if some subset has two or more alternatives
-- and no state has just one."
abbrev pub VerdictYes : List ℕ → List Config → Type 0
VerdictYes stops cs = Stopped stops cs ⊎ (Conflict cs × (Any (JustOne cs) cs → ⊥))
