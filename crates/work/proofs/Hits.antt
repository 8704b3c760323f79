-- What is recalled is exactly what was kept, in whatever order it is looked for. Nothing here has to be believed.
use Rattle.std.specs.Prelude.{◌≡◌, refl, ◌⊎◌, ◌↔◌, Bool, true, false, ◌&&◌, List, [], ◌∷◌, ℕ, eqb}
use Rattle.std.proofs.Common.{sym, ◌∙◌, inl, inr, eq-eqb}
use Rattle.std.specs.Bool.{beq}
use Rattle.arena.specs.Store.{Found, at, nowhere}
use Rattle.arena.proofs.Trees.{at_inj, at_nowhere}
use Rattle.work.specs.Counted.{Result, recall}
use Rattle.work.proofs.CountedLaws.{result, test}
use Rattle.work.proofs.Kept.{key_is}
use Rattle.work.proofs.Keys.{Distinct}

-- the result is one of those kept
abbrev pub In : Result → List Result → Type 0
In r [] = ⊥
In r (x ∷ k) = (r ≡ x) ⊎ In r k

beq_self : (m : Bool) → beq m m ≡ true
beq_self true = refl
beq_self false = refl

pub recall_new : (r : Result) (k : List Result) → recall r.kind r.smaller r.larger (r ∷ k) ≡ at r.context
unfolding recall
recall_new r k = rw (beq_self r.kind, eq-eqb r.smaller r.smaller refl, eq-eqb r.larger r.larger refl, recall)

pub recall_in : (r : Result) (k : List Result) → Distinct k → In r k → recall r.kind r.smaller r.larger k ≡ at r.context
unfolding recall
recall_in r [] d i = absurd i
recall_in r (x ∷ k) d (inl e) = rw e (recall_new x k)
recall_in r (x ∷ k) d (inr i) =
    let below = recall_in r k d.1 i in
    test (λ (f : Found). f ≡ at r.context) (beq r.kind x.kind && (eqb r.smaller x.smaller && eqb r.larger x.larger)) _ _
    (λ q. let j = key_is r.kind r.smaller r.larger x q in
    let none : recall r.kind r.smaller r.larger k ≡ nowhere = rw (j.0, j.1, j.2) d.0 in
    absurd (at_nowhere r.context (sym below ∙ none)))
    (λ q. below)

pub recall_from : (m : Bool) (a b c : ℕ) (k : List Result) → recall m a b k ≡ at c → In (result m a b c) k
unfolding recall
recall_from m a b c [] = λ e. at_nowhere c (sym e)
recall_from m a b c (x ∷ k) =
    test (λ (f : Found). f ≡ at c → In (result m a b c) (x ∷ k)) (beq m x.kind && (eqb a x.smaller && eqb b x.larger)) _ _
    (λ q e. let i = key_is m a b x q in inl (rw (i.0, i.1, i.2, ← at_inj x.context c e)))
    (λ q e. inr (recall_from m a b c k e))

-- found or not
pub found? {ℓ} : {X : Type ℓ} (m : Bool) (a b : ℕ) (k : List Result) → ((c : ℕ) → recall m a b k ≡ at c → X) → (recall m a b k ≡ nowhere → X) → X
found? {X = X} m a b k hit miss = go (recall m a b k) refl
  where
    go : (f : Found) → recall m a b k ≡ f → X
    go (at c) e = hit c e
    go nowhere e = miss e

-- a hit exactly if the result was kept
pub hit_exactly : (m : Bool) (a b c : ℕ) (k : List Result) → Distinct k → (recall m a b k ≡ at c) ↔ In (result m a b c) k
hit_exactly m a b c k d = (recall_from m a b c k, recall_in (result m a b c) k d)

-- and none exactly if no result was kept for that merge
pub miss_exactly : (m : Bool) (a b : ℕ) (k : List Result) → Distinct k → (recall m a b k ≡ nowhere) ↔ ((c : ℕ) → In (result m a b c) k → ⊥)
miss_exactly m a b k d = (
  λ e c i. at_nowhere c (sym (recall_in (result m a b c) k d i) ∙ e),
  λ none. found? m a b k (λ c e. absurd (none c (recall_from m a b c k e))) (λ e. e),
)
