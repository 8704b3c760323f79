-- The alternative, shown as any entry is.
use Rattle.purse.specs.Doors.Laws.{alt_door}
use Rattle.purse.proofs.judging.purse_single_viable_alt.Goals as goal

pub returns : goal.returns
returns c = alt_door _ _ _ _ c.single_viable_alt.result c.entry_answer.ensures c.single_viable_alt.ensures
