-- The hash goes on from what is done to what is left: a turn takes one entry more, by `parents_turn`.
use mathlib.Core.Path.{◌≡◌}
use Prim.Native.Nat.{◌+◌, ◌-◌}
use Rattle.words.specs.Hash.{hash_from}
use Rattle.index.specs.Hash.{parent_words}
use Rattle.index.specs.Records.{hash_in, stack_node}
use Rattle.index.proofs.hash.mix_parents.Given as goal

abbrev pub invariant-loop-i : goal.invariant-loop-i
invariant-loop-i l = hash_from l.seed (parent_words (hash_in l.scratch) (stack_node l.scratch l.at l.n)) ≡ hash_from l.hash
    (parent_words (hash_in l.scratch) (stack_node l.scratch (l.at + l.i) (l.n - l.i)))
