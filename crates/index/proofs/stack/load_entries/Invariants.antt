-- Up to i the entries are copied; a turn copies one more, by `load_more`.
use Rattle.index.specs.Writes.{Loaded}
use Rattle.index.proofs.stack.load_entries.Given as goal

abbrev pub invariant-loop-i : goal.invariant-loop-i
invariant-loop-i l = Loaded l.store l.initial.scratch l.from l.i l.at l.scratch
