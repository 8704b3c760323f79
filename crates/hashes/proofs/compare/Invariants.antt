-- No more records differ than are read.
use Rattle.std.proofs.Common.{◌≤◌}
use Rattle.hashes.proofs.compare.Given as goal

abbrev pub invariant-loop-hashes : goal.invariant-loop-hashes
invariant-loop-hashes g l = l.differences ≤ l.hashes
