-- From the last word on, each moves up; `gap` is what they come to.
use mathlib.Core.Path.{◌≡◌}
use Prim.Native.Nat.{◌≤◌}
use lib.ListN.{length}
use Rattle.outputs.specs.Insert.{gap}
use Rattle.outputs.proofs.inner.insert.put_in.Given as goal

abbrev pub invariant-loop-left : goal.invariant-loop-left
invariant-loop-left l = (l.left ≤ l.count) × (length l.words ≡ length l.initial.words) × (gap l.initial.words l.at l.count ≡ gap l.words l.at l.left)

abbrev pub decreases-loop-left : goal.decreases-loop-left
decreases-loop-left l = l.left
