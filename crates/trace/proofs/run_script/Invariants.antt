-- Some steps were made, from the fresh words on; a turn makes one more. What is left of the script falls.
use Rattle.std.proofs.Common.{◌-◌, length}
use Rattle.steps.specs.Lent.{lent_of}
use Rattle.trace.specs.Traced.Laws.{Stands}
use Rattle.trace.proofs.run_script.Given as goal

abbrev pub invariant-loop-wrote : goal.invariant-loop-wrote
invariant-loop-wrote g l = Stands l.bytes l.at (lent_of l.room)

abbrev pub decreases-loop-wrote : goal.decreases-loop-wrote
decreases-loop-wrote g l = length l.bytes - l.at
