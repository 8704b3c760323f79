-- To believe: the same of a reply of a call on a set; inserted is 1 and merged 0.
use Rattle.std.specs.Prelude.{ℕ}
use Rattle.deciding.specs.Calls.{SetLeft, SetReply, refused, done, added}
use Rattle.answers.specs.declared.structs.Answer.{Answer}
use Rattle.answers.specs.declared.structs.CountedAnswer.{CountedAnswer}
use Rattle.answers.specs.Answers.{counted}

unfoldable pub set_answer_of : SetReply → Answer
set_answer_of (refused n) = record { refusal = n; value = 0 }
set_answer_of done = record { refusal = 0; value = 0 }
set_answer_of (added k) = record { refusal = 0; value = k }

-- of what a call on a set leaves: with what was counted
abbrev pub set_counted_of : SetLeft → CountedAnswer
set_counted_of x = counted (set_answer_of x.reply).refusal (set_answer_of x.reply).value x.merges x.made

abbrev pub set_number_of : SetReply → ℕ
set_number_of r = (set_answer_of r).refusal
