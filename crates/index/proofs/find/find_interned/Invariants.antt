-- The chain is followed link by link; what is known at a link is `Going`, and each step is a lemma of `Search`.
use Prim.Native.Nat.{◌≤◌}
use Rattle.layout.specs.Decode.{store_in}
use Rattle.index.specs.Hash.{bucket_of}
use Rattle.index.specs.Records.{stack_node}
use Rattle.index.specs.Chain.{At}
use Rattle.index.proofs.find.find_interned.Given as goal

abbrev pub invariant-loop-next : goal.invariant-loop-next
invariant-loop-next l = (l.next ≤ l.count) × At (store_in l.store l.count) (stack_node l.scratch l.at l.n) (bucket_of l.hash) l.next

abbrev pub decreases-loop-next : goal.decreases-loop-next
decreases-loop-next l = l.next
