-- Up to i the entries are sound; the first that is not says no.
use Prim.Native.Nat.{ℕ, ◌+◌, ◌<◌}
use Rattle.layout.specs.Layout.{parent, state}
use Rattle.recordcheck.specs.Check.{EntryAt}
use Rattle.recordcheck.proofs.inner.check.entries_sound.Given as goal

abbrev pub invariant-loop-i : goal.invariant-loop-i
invariant-loop-i l = (j : ℕ) → j < l.i → EntryAt (state l.store) (parent l.store) l.from (l.from + j) l.context
