-- To believe: what each case of an answer is, as a reply, and what a query leaves as a whole.
use Rattle.std.specs.Prelude.{Bool, ℕ, Option, Some, None, Result, Ok, Err}
use Rattle.words.specs.Refusals.{number}
use Rattle.words.specs.declared.names.ContextId.{ContextId}
use Rattle.words.specs.declared.names.ReturnState.{ReturnState}
use Rattle.words.specs.declared.refusals.Refusal.{Refusal}
use Rattle.store.specs.Calls.{Reply, refused, context, count, state, holds, none}

abbrev pub counted : Result ℕ Refusal → Reply
counted (Ok n) = count n
counted (Err f) = refused (number f)

abbrev pub decided : Result Bool Refusal → Reply
decided (Ok b) = holds b
decided (Err f) = refused (number f)

abbrev pub state_found : Result (Option ReturnState) Refusal → Reply
state_found (Ok (Some s)) = state s.0
state_found (Ok None) = none
state_found (Err f) = refused (number f)

abbrev pub parent_found : Result (Option ContextId) Refusal → Reply
parent_found (Ok (Some p)) = context p.0
parent_found (Ok None) = none
parent_found (Err f) = refused (number f)
