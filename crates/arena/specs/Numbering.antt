-- To believe: "New contexts take the next number: inner merges go in rising order of top state, each before the context above it, and nothing else is made."
use Rattle.std.specs.Prelude.{◌≡◌, List, [], ◌∷◌, ◌++◌, ℕ, ◌<◌, length}
use Rattle.stacks.specs.Forest.{Forest, none, mark, over}
use Rattle.arena.specs.Store.{Node, Store, tree}

-- the parts of a set in the order in which they are complete: beneath each top state, rising, its parts and then the set beneath it
unfoldable pub inner : Forest → List Forest
inner none = []
inner mark = []
inner (over r b t) = inner b ++ (b ∷ inner t)

-- and the set itself last
unfoldable pub parts : Forest → List Forest
parts F = inner F ++ (F ∷ [])

-- a context stands for the set
abbrev pub Standing : Store → Forest → Type 0
Standing s F = (c : ℕ) × (c < length s) × (tree s c ≡ F)

-- sets taken one after the other into a store: each takes the next number, which is how many contexts there are, unless a context stands for it
pub data Joins : Store → List Forest → Store → Type 0 where
  done : {s : Store} → Joins s [] s
  there : {s u : Store} {F : Forest} {Fs : List Forest} → Standing s F → Joins s Fs u → Joins s (F ∷ Fs) u
  next : {s u : Store} {F : Forest} {Fs : List Forest} (n : Node) → (Standing s F → ⊥) → tree (n ∷ s) (length s) ≡ F → Joins (n ∷ s) Fs u → Joins s (F ∷ Fs) u
