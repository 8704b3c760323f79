-- The state, shown as any entry is.
use Rattle.purse.specs.Doors.Laws.{state_door}
use Rattle.purse.proofs.asking.purse_return_state.Goals as goal

pub returns : goal.returns
returns c = state_door _ _ _ _ c.return_state.result c.entry_answer.ensures c.return_state.ensures
