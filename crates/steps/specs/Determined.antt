-- Two outcomes that satisfy a contract for the same input are equal: the answer, case and value, and every byte and word.
-- Nothing here has to be believed.
use Rattle.std.specs.Prelude.{◌≡◌, refl, List, ℕ}
use Rattle.std.proofs.Common.{sym, ap, ◌∙◌}
use Rattle.steps.specs.declared.run.Ran.{Ran}
use Rattle.steps.specs.declared.run.Ran.TheVariants.{Next, Over}
use Rattle.replies.specs.Replies.{Lent}
use Rattle.steps.specs.Steps.{fresh, goes, over, step_of}
use Rattle.steps.specs.Answers.{Behind, behind, laid_out}

-- the answer, back from what it stands for
unfoldable ran_of : Behind → Ran
ran_of x = elim x.after [ goes j ↦ Next x.wrote j | over ↦ Over x.wrote ]

ran_back : (r : Ran) (b : List ℕ) (l : Lent) → ran_of (behind r b l) ≡ r
unfolding ran_of
ran_back (Next n j) b l = refl
ran_back (Over n) b l = refl

pub start_determined : (l m : Lent) → l ≡ fresh → m ≡ fresh → l ≡ m
start_determined l m p q = p ∙ sym q

pub step_determined : (s : List ℕ) (i : ℕ) (l : Lent) (o : List ℕ) (a b : Ran) (u v : List ℕ) (m k : Lent)
    → behind a u m ≡ laid_out o (step_of s i l) → behind b v k ≡ laid_out o (step_of s i l) → (a ≡ b) × (u ≡ v) × (m ≡ k)
step_determined s i l o a b u v m k p q =
    let e : behind a u m ≡ behind b v k = p ∙ sym q in (
      sym (ran_back a u m) ∙ ap ran_of e ∙ ran_back b v k,
      ap (λ (x : Behind). x.buffer) e,
      ap (λ (x : Behind). x.words) e,
    )
