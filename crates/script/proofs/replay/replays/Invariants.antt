-- So far the answer agrees with what was printed; a turn takes one step more.
use Prim.Native.Nat.{◌-◌}
use lib.ListN.{length}
use Rattle.steps.specs.Lent.{lent_of}
use Rattle.script.specs.Replayed.{Told}
use Rattle.script.proofs.replay.replays.Given as goal

abbrev pub invariant-loop-wrote : goal.invariant-loop-wrote
invariant-loop-wrote l = Told l.script l.answer l.at l.told (lent_of l.room)

abbrev pub decreases-loop-wrote : goal.decreases-loop-wrote
decreases-loop-wrote l = length l.script - l.at
