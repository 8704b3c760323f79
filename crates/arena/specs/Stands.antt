-- To believe: the stacks that a context stands for.
use Rattle.std.specs.Prelude.{Bool, List, ℕ}
use Rattle.stacks.specs.Forest.{mem}
use Rattle.arena.specs.Store.{Store, tree}

-- the stack σ is one of those that the context c stands for
abbrev pub stands : Store → ℕ → List ℕ → Bool
stands s c σ = mem (tree s c) σ
