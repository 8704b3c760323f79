-- To believe: the same of the reason of a verdict: which one, 1 to 4 in the order in which they are tried, and what it names; all 0 on a refusal.
use Rattle.std.specs.Prelude.{ℕ}
use Rattle.deciding.specs.Reason.{stop, none, one, clash}
use Rattle.verdicts.specs.Calls.{VerdictReply, refused, says, alternative, written, summary, because}
use Rattle.answers.specs.declared.reasoning.ReasonAnswer.{ReasonAnswer}

-- a refusal's number; the reason, a state, its one alternative, a context
abbrev pub reason_fields : ℕ → ℕ → ℕ → ℕ → ℕ → ReasonAnswer
reason_fields n r s a k = record { refusal = n; reason = r; state = s; alternative = a; context = k }

-- the alternatives of a clash are in the output
unfoldable pub reason_answer_of : VerdictReply → ReasonAnswer
reason_answer_of (refused n) = reason_fields n 0 0 0 0
reason_answer_of (because stop) = reason_fields 0 1 0 0 0
reason_answer_of (because none) = reason_fields 0 2 0 0 0
reason_answer_of (because (one s a)) = reason_fields 0 3 s a 0
reason_answer_of (because (clash s k xs)) = reason_fields 0 4 s 0 k
reason_answer_of (says b) = reason_fields 0 0 0 0 0
reason_answer_of (alternative a) = reason_fields 0 0 0 0 0
reason_answer_of written = reason_fields 0 0 0 0 0
reason_answer_of (summary x) = reason_fields 0 0 0 0 0
