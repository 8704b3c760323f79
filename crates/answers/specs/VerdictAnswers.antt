-- To believe: the same of a reply of a call on a set's subsets; yes is 1, no is 0, and an alternative that there is has a 1 of its own beside it.
use Rattle.std.specs.Prelude.{true, false, ℕ}
use Rattle.deciding.specs.Answers.{none, only}
use Rattle.verdicts.specs.Calls.{VerdictReply, refused, says, alternative, written, summary, because}
use Rattle.answers.specs.declared.structs.Answer.{Answer}
use Rattle.answers.specs.declared.structs.EntryAnswer.{EntryAnswer}
use Rattle.answers.specs.Answers.{entry}

unfoldable pub alt_answer_of : VerdictReply → EntryAnswer
alt_answer_of (refused n) = entry n 0 0
alt_answer_of (says true) = entry 0 0 1
alt_answer_of (says false) = entry 0 0 0
alt_answer_of (alternative none) = entry 0 0 0
alt_answer_of (alternative (only a)) = entry 0 1 a
alt_answer_of written = entry 0 0 0
alt_answer_of (summary x) = entry 0 0 0
alt_answer_of (because x) = entry 0 0 0

abbrev pub verdict_answer_of : VerdictReply → Answer
verdict_answer_of r = record { refusal = (alt_answer_of r).refusal; value = (alt_answer_of r).value }

abbrev pub verdict_number_of : VerdictReply → ℕ
verdict_number_of r = (alt_answer_of r).refusal
