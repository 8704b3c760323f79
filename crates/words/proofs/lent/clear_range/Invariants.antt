-- `clear_range` leaves `cleared_range`. The loop's invariant: the words up to i are cleared; one store more is `cleared_range_more`.
use Rattle.std.proofs.Common.{◌≡◌, length}
use Rattle.words.specs.Lent.{cleared_range}
use Rattle.words.proofs.lent.clear_range.Given as goal

abbrev pub invariant-loop-i : goal.invariant-loop-i
invariant-loop-i l = (length l.words ≡ length l.initial.words) × (l.words ≡ cleared_range l.initial.words l.from l.i)
