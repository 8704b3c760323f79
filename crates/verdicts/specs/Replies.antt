-- To believe: what each case of an answer is, as a reply.
use Rattle.std.specs.Prelude.{Bool, Option, Result, Ok, Err}
use Rattle.words.specs.Refusals.{number}
use Rattle.words.specs.declared.names.Alternative.{Alternative}
use Rattle.words.specs.declared.refusals.Refusal.{Refusal}
use Rattle.deciding.specs.OneAlt.{one_alt}
use Rattle.verdicts.specs.Calls.{VerdictReply, refused, says, alternative, written}

abbrev pub decided : Result Bool Refusal → VerdictReply
decided (Ok b) = says b
decided (Err f) = refused (number f)

abbrev pub alt_found : Result (Option Alternative) Refusal → VerdictReply
alt_found (Ok a) = alternative (one_alt a)
alt_found (Err f) = refused (number f)

abbrev pub wrote : Result Unit Refusal → VerdictReply
wrote (Ok _) = written
wrote (Err f) = refused (number f)
