-- What is written and what is left make the whole; a turn writes one entry, by `fill_turn`.
use mathlib.Core.Path.{◌≡◌}
use Prim.Native.Nat.{◌+◌, ◌-◌}
use Rattle.layout.specs.Encode.{fill}
use Rattle.index.specs.Records.{stack_node}
use Rattle.interning.proofs.inner.write.fill_pool.Given as goal

abbrev pub invariant-loop-i : goal.invariant-loop-i
invariant-loop-i l = fill l.initial.store l.used (stack_node l.scratch l.at l.n) ≡ fill l.store (l.used + l.i) (stack_node l.scratch (l.at + l.i) (l.n - l.i))
