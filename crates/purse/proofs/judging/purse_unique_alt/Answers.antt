-- The alternative, shown as any entry is.
use Rattle.purse.specs.Doors.Laws.{alt_door}
use Rattle.purse.proofs.judging.purse_unique_alt.Goals as goal

pub returns : goal.returns
returns c = alt_door _ _ _ _ c.unique_alt.result c.entry_answer.ensures c.unique_alt.ensures
