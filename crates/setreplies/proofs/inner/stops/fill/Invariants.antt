-- The number, then state by state.
use mathlib.Core.Path.{◌≡◌}
use lib.ListN.{length}
use Rattle.setreplies.specs.Holds.{Held}
use Rattle.setreplies.proofs.inner.stops.fill.Given as goal

abbrev pub invariant-loop-i : goal.invariant-loop-i
invariant-loop-i l = (length l.stops ≡ 65) × Held l.bytes l.at l.count l.i l.stops
