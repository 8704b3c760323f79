-- What a lookup answers, as the definition's answer. Nothing here has to be believed.
use Rattle.std.specs.Prelude.{Option, Some, None}
use Rattle.arena.specs.Store.{at, nowhere}
use Rattle.words.specs.declared.names.ContextId.{ContextId}

abbrev pub found_of : Option ContextId → Rattle.arena.specs.Store.Found
found_of (Some c) = at c.0
found_of None = nowhere
