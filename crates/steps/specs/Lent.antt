-- The words that stand in what a script works in. Nothing here has to be believed.
use Rattle.replies.specs.Replies.{Lent, lent}
use Rattle.steps.specs.declared.room.Room.{Room}

abbrev pub lent_of : Room → Lent
lent_of r = lent r.store r.set r.stops r.scratch
