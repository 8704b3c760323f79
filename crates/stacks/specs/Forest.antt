-- To believe: a finite set of stacks of return states. A stack is a list, its top first.
use Rattle.std.specs.Prelude.{Bool, true, false, ◌&&◌, ◌||◌, List, [], ◌∷◌, ℕ, eqb}

-- `none`: no stacks. `mark`: the empty stack alone; it sorts last. `over r b t`: r on top of each stack of b, and the stacks of t.
pub data Forest : Type 0 where
  none : Forest
  mark : Forest
  over : ℕ → Forest → Forest → Forest

-- is this stack one of the set
unfoldable pub mem : Forest → List ℕ → Bool
mem none σ = false
mem mark [] = true
mem mark (x ∷ σ) = false
mem (over r b t) [] = mem t []
mem (over r b t) (x ∷ σ) = (eqb r x && mem b σ) || mem t (x ∷ σ)
