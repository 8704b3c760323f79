-- The conversion answers what `expanded` says: each `return` cites the law of its case.
use Rattle.std.proofs.Common.{sym, ◌∙◌}
use Rattle.words.specs.Compact.Laws.{expanded_mark, expanded_state}
use Rattle.words.proofs.names.ReturnStateFromCompactState.from.Goals as goal

pub returns-then-held : goal.returns-then-held
returns-then-held c = sym (expanded_mark _ c.if-held.true)

pub returns : goal.returns
returns c = c.from.ensures ∙ sym (expanded_state _ c.if-held.false)
