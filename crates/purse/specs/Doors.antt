-- To believe: what a door to a call leaves, and how the mode of a merge or of a fresh set is read.
pub mod Laws
use Rattle.std.specs.Prelude.{◌≡◌, Bool, List, ℕ, eqb}
use Rattle.verdicts.specs.Calls.{VerdictReply, VerdictLeft}
use Rattle.setcheck.specs.Calls.{SetReply, SetLeft}
use Rattle.store.specs.Calls.{Reply, Left}
use Rattle.answers.specs.Answers.{counted_of}
use Rattle.answers.specs.SetAnswers.{set_counted_of}
use Rattle.answers.specs.declared.structs.CountedAnswer.{CountedAnswer}

-- the mode 0 is full-context, every other number by wildcard
abbrev pub by_full_context : ℕ → Bool
by_full_context m = eqb m 0

-- what stands for the reply of the call x, and the words that x leaves
abbrev pub Opens : {A : Type 0} → (Reply → A) → Left → A → List ℕ → List ℕ → Type 0
Opens of x a w z = (a ≡ of x.reply) × (w ≡ x.store) × (z ≡ x.scratch)

-- with the merges that it counts and the contexts that it makes
abbrev pub OpensCounted : Left → CountedAnswer → List ℕ → List ℕ → Type 0
OpensCounted x a w z = (a ≡ counted_of x) × (w ≡ x.store) × (z ≡ x.scratch)

-- the same of a call on a set
abbrev pub OpensSet : {A : Type 0} → (SetReply → A) → SetLeft → A → List ℕ → List ℕ → List ℕ → Type 0
OpensSet of x a w v z = (a ≡ of x.reply) × (w ≡ x.store) × (v ≡ x.set) × (z ≡ x.scratch)

abbrev pub OpensSetCounted : SetLeft → CountedAnswer → List ℕ → List ℕ → List ℕ → Type 0
OpensSetCounted x a w v z = (a ≡ set_counted_of x) × (w ≡ x.store) × (v ≡ x.set) × (z ≡ x.scratch)

-- and of a call on a set's subsets, which may write the scratch and the output alone
abbrev pub OpensVerdict : {A : Type 0} → (VerdictReply → A) → VerdictLeft → A → List ℕ → List ℕ → Type 0
OpensVerdict of x a z o = (a ≡ of x.reply) × (z ≡ x.scratch) × (o ≡ x.output)
