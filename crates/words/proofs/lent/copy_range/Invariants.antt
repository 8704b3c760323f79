-- `copy_range` leaves `copied_range`. The loop's invariant: the first words are copied, `done` of them; one store more is `copied_range_more`.
use Rattle.std.proofs.Common.{◌≡◌, length}
use Rattle.words.specs.Lent.{copied_range}
use Rattle.words.proofs.lent.copy_range.Given as goal

abbrev pub invariant-loop-done : goal.invariant-loop-done
invariant-loop-done l = (length l.target ≡ length l.initial.target) × (l.target ≡ copied_range l.initial.target l.at l.source l.from l.done)
