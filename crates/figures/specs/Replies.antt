-- To believe: what each case of the answer is, as a reply.
use Rattle.std.specs.Prelude.{Result, Ok, Err}
use Rattle.words.specs.Refusals.{number}
use Rattle.words.specs.declared.refusals.Refusal.{Refusal}
use Rattle.deciding.specs.OneAlt.{one_alt}
use Rattle.verdicts.specs.Calls.{Summary, VerdictReply, refused, summary}
use Rattle.figures.specs.declared.answers.Figures.{Figures}

abbrev pub summary_of : Figures → Summary
summary_of f = record { subsets = f.subsets; unique = one_alt f.unique; viable = one_alt f.viable; verdict = f.verdict }

abbrev pub told : Result Figures Refusal → VerdictReply
told (Ok f) = summary (summary_of f)
told (Err f) = refused (number f)
