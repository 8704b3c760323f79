-- `all_zero` answers `all_zero`. The loop's invariant: the OR of the words so far is 0 exactly if they all are.
use Rattle.std.proofs.Common.{◌≡◌, eqb, take}
use Rattle.words.specs.Lent.{are_zeros}
use Rattle.words.proofs.lent.all_zero.Given as goal

abbrev pub invariant-loop-word : goal.invariant-loop-word
invariant-loop-word l = eqb l.seen 0 ≡ are_zeros (take l.word-index l.word-items)
