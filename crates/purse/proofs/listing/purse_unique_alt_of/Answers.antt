-- The alternative, shown as any entry is.
use Rattle.purse.specs.Doors.Laws.{list_door}
use Rattle.purse.proofs.listing.purse_unique_alt_of.Goals as goal

pub returns : goal.returns
returns c = list_door _ c.unique_alt.result _ c.entry_answer.ensures c.unique_alt.ensures
