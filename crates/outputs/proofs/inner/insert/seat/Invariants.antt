-- The words passed are above the alternative.
use mathlib.Core.Path.{◌≡◌}
use Prim.Native.Nat.{◌≤◌}
use Rattle.outputs.specs.Insert.{seat_of}
use Rattle.outputs.proofs.inner.insert.seat.Given as goal

abbrev pub invariant-loop-left : goal.invariant-loop-left
invariant-loop-left l = (l.left ≤ l.count) × (seat_of l.words l.from l.count l.alternative ≡ seat_of l.words l.from l.left l.alternative)

abbrev pub decreases-loop-left : goal.decreases-loop-left
decreases-loop-left l = l.left
