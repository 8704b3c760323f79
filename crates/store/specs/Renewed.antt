-- To believe: what `fresh` answers, as a reply.
use Rattle.words.specs.Refusals.{number}
use Rattle.store.specs.Calls.{Reply, refused, done}
use Rattle.std.specs.Prelude.{Result, Ok, Err}
use Rattle.words.specs.declared.refusals.Refusal.{Refusal}

abbrev pub renewed : Result Unit Refusal → Reply
renewed (Ok _) = done
renewed (Err f) = refused (number f)
