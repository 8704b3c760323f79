-- To believe: what each case of the answer is, as a reply; the alternatives of a clash are those in the output o.
use Rattle.std.specs.Prelude.{List, ℕ, get_or, take, drop, Result, Ok, Err}
use Rattle.words.specs.Refusals.{number}
use Rattle.words.specs.declared.refusals.Refusal.{Refusal}
use Rattle.groups.specs.Reason.{stop, none, one, clash}
use Rattle.verdicts.specs.Calls.{VerdictReply, refused, because}
use Rattle.reasons.specs.declared.answers.Reason.{Reason}
use Rattle.reasons.specs.declared.answers.Reason.TheVariants.{Stop, NoClash, One, Clash}

abbrev pub told : Result Reason Refusal → List ℕ → VerdictReply
told (Ok Stop) o = because stop
told (Ok NoClash) o = because none
told (Ok (One s a)) o = because (one s a.0)
told (Ok (Clash s k)) o = because (clash s k.0 (take (get_or o 0 0) (drop 1 o)))
told (Err f) o = refused (number f)
