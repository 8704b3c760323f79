-- A turn of `trace`, from what its step leaves. Nothing here has to be believed.
use Rattle.std.specs.Prelude.{◌≡◌, Bool, List, [], ◌++◌, ℕ, suc, ◌+◌, ◌<◌, ◌≤◌, length}
use Rattle.std.proofs.Math.Path.{sym}
use Rattle.std.proofs.Common.{ap, ◌∙◌}
use Rattle.std.proofs.Math.Bool.{true, false}
use Rattle.steps.specs.Answers.{after_of}
use Rattle.steps.specs.Replies.{Lent, Printed}
use Rattle.steps.specs.Steps.{fresh, goes, over, step_of, run_of}
use Rattle.steps.specs.Steps.Laws.{step_forward}
use Rattle.steps.specs.Made.{Step, Made, made_start, made_next, made_over_lem, made_words}
use Rattle.steps.specs.declared.run.Ran.{Ran}
use Rattle.trace.specs.Traced.{Traced}

-- some steps were made: the script s stands at place i with the words l
pub record Stands (s : List ℕ) (i : ℕ) (l : Lent) : Type 0 where
  pub steps : ℕ
  pub replies : List ℕ
  pub made : Made s steps replies i l

pub stands_start : (s : List ℕ) (l : Lent) → l ≡ fresh → Stands s 0 l
stands_start s l e = rw e (record { steps = 0; replies = []; made = made_start s })

-- it stops there
pub stands_stopped : {s : List ℕ} {i : ℕ} {l : Lent} → Stands s i l → Traced s false l
stands_stopped {s} {i} {l} v = (v.steps, made_words s v.steps v.replies i l v.made)

module _ {s : List ℕ} {i : ℕ} {l : Lent} (v : Stands s i l) {r : Ran} {u : List ℕ} {m : Lent} (p : Step s i l r u m) where
  pub stands_forward : (j : ℕ) → after_of r ≡ goes j → (i < j) × (j ≤ length s)
  stands_forward j q = step_forward s i l j (p.after ∙ q)

  pub stands_next : (j : ℕ) → after_of r ≡ goes j → Stands s j m
  stands_next j q = record {
    steps = v.steps + 1;
    replies = v.replies ++ (step_of s i l).printed.reply;
    made = rw p.words at (made_next s v.steps v.replies i l v.made j (p.after ∙ q));
  }

  over_is : after_of r ≡ over → m ≡ (run_of s).words
  over_is q = sym p.words ∙ sym (ap (λ (x : Printed). x.words) (made_over_lem s v.steps v.replies i l v.made (p.after ∙ q)))

  -- the script is over; all its steps are some of them
  pub stands_over : after_of r ≡ over → (b : Bool) → Traced s b m
  unfolding run_of
  stands_over q true = over_is q
  stands_over q false = (suc (length s), over_is q)
