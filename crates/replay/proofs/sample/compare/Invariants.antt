-- The scripts that were walked, and what follows from there; a turn walks one more.
use Prim.Native.Nat.{◌-◌}
use lib.ListN.{length}
use Rattle.replay.specs.Sample.Laws.{Walked}
use Rattle.replay.proofs.sample.compare.Given as goal

abbrev pub invariant-loop-at : goal.invariant-loop-at
invariant-loop-at l = Walked l.bytes l.at l.scripts l.differences

abbrev pub decreases-loop-at : goal.decreases-loop-at
decreases-loop-at l = length l.bytes - l.at
