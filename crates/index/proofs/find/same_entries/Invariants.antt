-- Up to i the words agree; the first that do not tell the lists apart.
use mathlib.Core.Path.{◌≡◌}
use Prim.Native.Nat.{ℕ, ◌+◌, ◌<◌}
use Rattle.layout.specs.Layout.{parent, state}
use Rattle.layout.specs.Scratch.{stack_parent, stack_state}
use Rattle.index.proofs.find.same_entries.Given as goal

abbrev pub invariant-loop-i : goal.invariant-loop-i
invariant-loop-i l = (j : ℕ) → j < l.i → (state l.store (l.from + j) ≡ stack_state l.scratch (l.at + j)) × (parent l.store (l.from + j) ≡ stack_parent l.scratch (l.at + j))
