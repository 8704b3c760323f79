-- The parent, shown as any entry is.
use Rattle.purse.specs.Doors.Laws.{parent_door}
use Rattle.purse.proofs.asking.purse_parent.Goals as goal

pub returns : goal.returns
returns c = parent_door _ _ _ _ c.parent.result c.entry_answer.ensures c.parent.ensures
