-- From what a call leaves to what its door leaves, and that a door's outcome is determined. Nothing here has to be believed.
use Rattle.std.specs.Prelude.{◌≡◌, refl, List, [], ℕ, Bool, Option, Result, Ok, Err}
use Rattle.words.specs.declared.refusals.Refusal.{Refusal}
use Rattle.std.proofs.Common.{sym, ap, ◌∙◌}
use Rattle.store.specs.Calls.{Reply, Left, leaves, fresh_call}
use Rattle.verdicts.specs.Calls.{VerdictReply, VerdictLeft, verdict_left, alternative}
use Rattle.setcheck.specs.Calls.{SetReply, SetLeft, set_left, fresh_set_call}
use Rattle.contexts.specs.Replies.{merged}
use Rattle.contexts.specs.declared.merges.Merged.{Merged}
use Rattle.interning.specs.Replies.{numbered}
use Rattle.interning.specs.declared.numbered.Numbered.{Numbered}
use Rattle.configs.specs.Replies.{added_left}
use Rattle.configs.specs.declared.adding.Added.{Added}
use Rattle.configs.specs.declared.adding.Added.TheVariants.{Inserted, Merged as Joined}
use Rattle.words.specs.declared.names.Alternative.{Alternative}
use Rattle.words.specs.declared.names.ContextId.{ContextId}
use Rattle.words.specs.declared.names.ReturnState.{ReturnState}
use Rattle.queries.specs.Answers.{parent_found, state_found}
use Rattle.verdicts.specs.Answers.{Answer}
use Rattle.records.specs.OneAlt.{one_alt}
use Rattle.verdicts.specs.Replies.{alt_found}
use Rattle.answers.specs.declared.structs.EntryAnswer.{EntryAnswer}
use Rattle.answers.specs.Entries.{entry_answer_of, parent_entry, state_entry, alt_entry}
use Rattle.answers.specs.VerdictAnswers.{alt_answer_of}
use Rattle.answers.specs.declared.structs.CountedAnswer.{CountedAnswer}
use Rattle.answers.specs.SetAnswers.{set_counted_of, set_number_of}
use Rattle.purse.specs.Doors.{OpensSet, OpensVerdict, Opens, OpensCounted, OpensSetCounted}
use Rattle.answers.specs.Answers.{counted_of, entry_of, number_of}

-- a struct for the reply x beside the words that the call left
pub door : {A : Type 0} (of : Reply → A) (a : A) (x : Reply) (w z : List ℕ) (l : Left) → a ≡ of x → leaves x w z ≡ l → Opens of l a w z
door of a x w z l h e = (h ∙ ap (λ (o : Left). of o.reply) e, ap (λ (o : Left). o.store) e, ap (λ (o : Left). o.scratch) e)

-- an entry, where the answers are shown by one function
module _ (a : EntryAnswer) (w z : List ℕ) (l : Left) where
  pub parent_door : (r : Result (Option ContextId) Refusal) → a ≡ entry_answer_of (λ c. c.0) r → leaves (parent_found r) w z ≡ l → Opens entry_of l a w z
  parent_door r h e = door entry_of a (parent_found r) w z l (h ∙ parent_entry r) e

  pub state_door : (r : Result (Option ReturnState) Refusal) → a ≡ entry_answer_of (λ s. s.0) r → leaves (state_found r) w z ≡ l → Opens entry_of l a w z
  state_door r h e = door entry_of a (state_found r) w z l (h ∙ state_entry r) e

-- with what is counted
module _ (a : CountedAnswer) (w z : List ℕ) (l : Left) where
  pub number_door : (r : Result Numbered Refusal) → a ≡ counted_of (numbered r [] []) → numbered r w z ≡ l → OpensCounted l a w z
  number_door (Ok d) h e = rw (← e) (h, refl, refl)
  number_door (Err f) h e = rw (← e) (h, refl, refl)

  pub merge_door : (r : Result Merged Refusal) → a ≡ counted_of (merged r [] []) → merged r w z ≡ l → OpensCounted l a w z
  merge_door (Ok d) h e = rw (← e) (h, refl, refl)
  merge_door (Err f) h e = rw (← e) (h, refl, refl)

pub counted_determined : (x : Left) (a b : CountedAnswer) (w z v y : List ℕ) → OpensCounted x a w z → OpensCounted x b v y → (a ≡ b) × (w ≡ v) × (z ≡ y)
counted_determined x a b w z v y p q = (p.0 ∙ sym q.0, p.1 ∙ sym q.1, p.2 ∙ sym q.2)

-- the same of a fresh store, where the number alone comes back
pub fresh_door : (n : ℕ) (x : Reply) (v w : List ℕ) → n ≡ number_of x → (x, v) ≡ fresh_call w → (n ≡ number_of (fresh_call w).0) × (v ≡ (fresh_call w).1)
fresh_door n x v w h e = (h ∙ ap (λ (o : Reply × List ℕ). number_of o.0) e, ap (λ (o : Reply × List ℕ). o.1) e)

-- two outcomes of a door that satisfy its contract for the same input are equal: every field of the struct and every word
pub door_determined : {A : Type 0} (of : Reply → A) (x : Left) (a b : A) (w z v y : List ℕ) → Opens of x a w z → Opens of x b v y → (a ≡ b) × (w ≡ v) × (z ≡ y)
door_determined of x a b w z v y p q = (p.0 ∙ sym q.0, p.1 ∙ sym q.1, p.2 ∙ sym q.2)

-- ---- the same of a call on a set

pub set_door : {A : Type 0} (of : SetReply → A) (a : A) (x : SetReply) (w v z : List ℕ) (l : SetLeft) → a ≡ of x → set_left x w v z ≡ l → OpensSet of l a w v z
set_door of a x w v z l h e =
    (h ∙ ap (λ (o : SetLeft). of o.reply) e, ap (λ (o : SetLeft). o.store) e, ap (λ (o : SetLeft). o.set) e, ap (λ (o : SetLeft). o.scratch) e)

pub set_counted_door : (a : CountedAnswer) (r : Result Added Refusal) (w v z : List ℕ) (l : SetLeft) → a ≡ set_counted_of (added_left r [] [] [])
    → added_left r w v z ≡ l → OpensSetCounted l a w v z
set_counted_door a (Ok Inserted) w v z l h e = rw (← e) (h, refl, refl, refl)
set_counted_door a (Ok (Joined k)) w v z l h e = rw (← e) (h, refl, refl, refl)
set_counted_door a (Err f) w v z l h e = rw (← e) (h, refl, refl, refl)

pub set_counted_determined : (x : SetLeft) (a b : CountedAnswer) (w v z u t y : List ℕ) → OpensSetCounted x a w v z → OpensSetCounted x b u t y
    → (a ≡ b) × (w ≡ u) × (v ≡ t) × (z ≡ y)
set_counted_determined x a b w v z u t y p q = (p.0 ∙ sym q.0, p.1 ∙ sym q.1, p.2 ∙ sym q.2, p.3 ∙ sym q.3)

pub fresh_set_door : (n : ℕ) (x : SetReply) (u v : List ℕ) (f : Bool) → n ≡ set_number_of x → (x, u) ≡ fresh_set_call v f
    → (n ≡ set_number_of (fresh_set_call v f).0) × (u ≡ (fresh_set_call v f).1)
fresh_set_door n x u v f h e = (h ∙ ap (λ (o : SetReply × List ℕ). set_number_of o.0) e, ap (λ (o : SetReply × List ℕ). o.1) e)

pub set_door_determined : {A : Type 0} (of : SetReply → A) (x : SetLeft) (a b : A) (w v z u t y : List ℕ) → OpensSet of x a w v z → OpensSet of x b u t y
    → (a ≡ b) × (w ≡ u) × (v ≡ t) × (z ≡ y)
set_door_determined of x a b w v z u t y p q =
    (p.0 ∙ sym q.0, p.1 ∙ sym q.1, p.2 ∙ sym q.2, p.3 ∙ sym q.3)

-- ---- the same of a call on a set's subsets

pub verdict_door : {A : Type 0} (of : VerdictReply → A) (a : A) (x : VerdictReply) (z o : List ℕ) (l : VerdictLeft) → a ≡ of x → verdict_left x z o ≡ l → OpensVerdict of l a z o
verdict_door of a x z o l h e = (h ∙ ap (λ (y : VerdictLeft). of y.reply) e, ap (λ (y : VerdictLeft). y.scratch) e, ap (λ (y : VerdictLeft). y.output) e)

-- an alternative, from a call or from a list
pub alt_door : (a : EntryAnswer) (z o : List ℕ) (l : VerdictLeft) (r : Result (Option Alternative) Refusal) → a ≡ entry_answer_of (λ x. x.0) r → verdict_left (alt_found r) z o ≡ l
    → OpensVerdict alt_answer_of l a z o
alt_door a z o l r h e = verdict_door alt_answer_of a (alt_found r) z o l (h ∙ alt_entry r) e

pub list_door : (a : EntryAnswer) (x : Option Alternative) (y : Answer) → a ≡ entry_answer_of (λ x. x.0) (Ok x) → one_alt x ≡ y → a ≡ alt_answer_of (alternative y)
list_door a x y h e = h ∙ alt_entry (Ok x) ∙ ap (λ (k : Answer). alt_answer_of (alternative k)) e

pub verdict_door_determined : {A : Type 0} (of : VerdictReply → A) (x : VerdictLeft) (a b : A) (z o y p : List ℕ) → OpensVerdict of x a z o → OpensVerdict of x b y p
    → (a ≡ b) × (z ≡ y) × (o ≡ p)
verdict_door_determined of x a b z o y p f g = (f.0 ∙ sym g.0, f.1 ∙ sym g.1, f.2 ∙ sym g.2)
