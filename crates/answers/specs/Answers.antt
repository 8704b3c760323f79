-- To believe: what stands at the border to C for a reply: a number or a struct. A refusal carries its number and nothing else.
pub mod Laws
use Rattle.std.specs.Prelude.{true, false, ℕ}
use Rattle.store.specs.Calls.{Left, Reply, refused, done, context, count, state, holds, none}
use Rattle.answers.specs.declared.structs.Answer.{Answer}
use Rattle.answers.specs.declared.structs.CountedAnswer.{CountedAnswer}
use Rattle.answers.specs.declared.structs.EntryAnswer.{EntryAnswer}

abbrev pub entry : ℕ → ℕ → ℕ → EntryAnswer
entry n f v = record { refusal = n; found = f; value = v }

-- a refusal's number, or 0; 1 where there is an entry, or 0; what was asked for, or 0
unfoldable pub entry_of : Reply → EntryAnswer
entry_of (refused n) = entry n 0 0
entry_of done = entry 0 0 0
entry_of (context c) = entry 0 1 c
entry_of (count n) = entry 0 1 n
entry_of (state s) = entry 0 1 s
entry_of (holds true) = entry 0 0 1
entry_of (holds false) = entry 0 0 0
entry_of none = entry 0 0 0

-- where no entry is asked for, the first and the last of the three
abbrev pub answer_of : Reply → Answer
answer_of r = record { refusal = (entry_of r).refusal; value = (entry_of r).value }

abbrev pub number_of : Reply → ℕ
number_of r = (entry_of r).refusal

abbrev pub counted : ℕ → ℕ → ℕ → ℕ → CountedAnswer
counted n v m k = record { refusal = n; value = v; merges = m; made = k }

-- of what a call leaves: with how many merges were counted, and how many contexts made
abbrev pub counted_of : Left → CountedAnswer
counted_of x = counted (entry_of x.reply).refusal (entry_of x.reply).value x.merges x.made
