-- To believe: the same of all figures of a set: each as in the answer of its own call, and all 0 on a refusal.
use Rattle.std.specs.Prelude.{false}
use Rattle.deciding.specs.Answers.{none}
use Rattle.verdicts.specs.Calls.{Summary, VerdictReply, refused, says, alternative, written, summary, because}
use Rattle.answers.specs.VerdictAnswers.{verdict_number_of, alt_answer_of}
use Rattle.answers.specs.declared.figuring.FiguresAnswer.{FiguresAnswer}

abbrev pub no_figures : Summary
no_figures = record { subsets = 0; unique = none; viable = none; verdict = false }

abbrev pub figures_in : VerdictReply → Summary
figures_in (summary s) = s
figures_in (refused n) = no_figures
figures_in (says b) = no_figures
figures_in (alternative a) = no_figures
figures_in written = no_figures
figures_in (because r) = no_figures

abbrev pub figures_answer_of : VerdictReply → FiguresAnswer
figures_answer_of r = record {
  refusal = verdict_number_of r;
  subsets = (figures_in r).subsets;
  has_unique = (alt_answer_of (alternative (figures_in r).unique)).found;
  unique = (alt_answer_of (alternative (figures_in r).unique)).value;
  has_viable = (alt_answer_of (alternative (figures_in r).viable)).found;
  viable = (alt_answer_of (alternative (figures_in r).viable)).value;
  verdict = (alt_answer_of (says (figures_in r).verdict)).value;
}
