-- A turn pushes one entry more, by `tail_turn`; then all that was pushed is interned.
use mathlib.Core.Path.{◌≡◌}
use Rattle.arena.specs.Store.{node_at}
use Rattle.arena.specs.Kinds.{size}
use Rattle.layout.specs.Decode.{store_of}
use Rattle.entries.specs.Rest.{Tail}
use Rattle.entries.proofs.rest.intern_with_rest.Given as goal

abbrev pub invariant-loop-next : goal.invariant-loop-next
invariant-loop-next l =
    (l.count ≡ size (node_at (store_of l.store) l.context.0)) × Tail l.store l.initial.scratch l.context.0 l.index l.top l.n l.scratch l.next l.pushed
