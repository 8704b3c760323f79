-- The conversion answers what `compacted` says: each `return` cites the law of its range.
use Rattle.std.proofs.Common.{sym, arith}
use Rattle.words.specs.Compact.Laws.{compacted_mark, compacted_state, compacted_out}
use Rattle.words.proofs.names.CompactStateTryFromReturnState.try_from.Goals as goal

pub returns-then-given : goal.returns-then-given
returns-then-given c = sym (compacted_mark _ c.if-given.true)

pub returns-then-given-le-LARGEST_STATE : goal.returns-then-given-le-LARGEST_STATE
returns-then-given-le-LARGEST_STATE c = sym (compacted_state _ (omega arith))

pub returns : goal.returns
returns c = sym (compacted_out _ c.if-given.false (omega arith))
