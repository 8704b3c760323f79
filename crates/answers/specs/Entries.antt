-- The struct of an entry that is found, or of none, for each kind of entry. Nothing here has to be believed.
use Rattle.std.specs.Prelude.{◌≡◌, refl, ℕ, Option, Some, None, Result, Ok, Err}
use Rattle.words.specs.Refusals.{number}
use Rattle.words.specs.declared.names.Alternative.{Alternative}
use Rattle.words.specs.declared.names.ContextId.{ContextId}
use Rattle.words.specs.declared.names.ReturnState.{ReturnState}
use Rattle.words.specs.declared.refusals.Refusal.{Refusal}
use Rattle.queries.specs.Answers.{parent_found, state_found}
use Rattle.verdicts.specs.Replies.{alt_found}
use Rattle.answers.specs.declared.structs.EntryAnswer.{EntryAnswer}
use Rattle.answers.specs.Answers.{entry, entry_of}
use Rattle.answers.specs.VerdictAnswers.{alt_answer_of}

abbrev pub entry_answer_of : {A : Type 0} → (A → ℕ) → Result (Option A) Refusal → EntryAnswer
entry_answer_of word (Ok (Some x)) = entry 0 1 (word x)
entry_answer_of word (Ok None) = entry 0 0 0
entry_answer_of word (Err f) = entry (number f) 0 0

pub parent_entry : (a : Result (Option ContextId) Refusal) → entry_answer_of (λ c. c.0) a ≡ entry_of (parent_found a)
unfolding entry_of
parent_entry (Ok (Some c)) = refl
parent_entry (Ok None) = refl
parent_entry (Err f) = refl

pub state_entry : (a : Result (Option ReturnState) Refusal) → entry_answer_of (λ s. s.0) a ≡ entry_of (state_found a)
unfolding entry_of
state_entry (Ok (Some s)) = refl
state_entry (Ok None) = refl
state_entry (Err f) = refl

pub alt_entry : (a : Result (Option Alternative) Refusal) → entry_answer_of (λ x. x.0) a ≡ alt_answer_of (alt_found a)
unfolding alt_answer_of
alt_entry (Ok (Some x)) = refl
alt_entry (Ok None) = refl
alt_entry (Err f) = refl
