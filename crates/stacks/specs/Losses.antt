-- To believe: how a stack begins, and where a set of stacks ends. A stack is read from its top.
use Rattle.std.specs.Prelude.{List, [], ◌∷◌, ℕ}
use Rattle.stacks.specs.Rules.{Stacks, OnlyEmpty, beneath}

-- the first begins with the second: every stack with the empty one, and with the same state on top as what is beneath
pub data BeginsWith : List ℕ → List ℕ → Type 0 where
  anything : {σ : List ℕ} → BeginsWith σ []
  below : {x : ℕ} {σ ρ : List ℕ} → BeginsWith σ ρ → BeginsWith (x ∷ σ) (x ∷ ρ)

-- how the stacks of a set go on that begin with ρ
unfoldable pub going_on : Stacks → List ℕ → Stacks
going_on A [] = A
going_on A (x ∷ ρ) = going_on (beneath A x) ρ

-- the set ends at ρ: it has this stack, and no longer one that begins with it
abbrev pub EndsAt : Stacks → List ℕ → Type 0
EndsAt A ρ = OnlyEmpty (going_on A ρ)
