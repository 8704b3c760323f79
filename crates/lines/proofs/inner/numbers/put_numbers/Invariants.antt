-- So many numbers are laid; a turn lays one more.
use lib.ListN.{take}
use Rattle.lines.specs.Spread.{Spread}
use Rattle.lines.proofs.inner.numbers.put_numbers.Given as goal

abbrev pub invariant-loop-n : goal.invariant-loop-n
invariant-loop-n l = Spread l.initial.out l.at (take l.n-index l.numbers) l.next l.out
