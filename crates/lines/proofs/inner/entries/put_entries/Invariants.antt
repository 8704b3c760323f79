-- What is left to lay gives the whole: a turn lays the next entry.
use Prim.Native.Nat.{◌+◌, ◌-◌}
use Rattle.lines.specs.Lines.{entries_bytes}
use Rattle.lines.specs.Entries.{pool_node}
use Rattle.lines.specs.Laid.Laws.{Rest}
use Rattle.lines.proofs.inner.entries.put_entries.Given as goal

abbrev pub invariant-loop-i : goal.invariant-loop-i
invariant-loop-i l = Rest l.initial.out l.at (entries_bytes (pool_node l.store l.from l.n)) l.out l.next (entries_bytes (pool_node l.store (l.from + l.i) (l.n - l.i)))
