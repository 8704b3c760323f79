-- The tests of the definition taken apart: the ways in which two states can stand, and the sides in order. Nothing here has to be believed.
use Rattle.std.specs.Prelude.{◌≡◌, refl, Bool, true, false, ℕ, ◌<◌, ◌≤◌, min, max}
use Rattle.std.proofs.Common.{ap, arith}
use Rattle.std.proofs.lemmas.Bool.{false≢true}
use Rattle.std.proofs.Math.Nat.{min-eq_left, min-eq_right, max-eq_left, max-eq_right}
use borrow.Author.Tests.{eqb-true, lt-ltb, le-ltb}
use Rattle.stacks.specs.Numbers.{below?}
use Rattle.arena.specs.Store.{Node, push, Found, at, nowhere}
use Rattle.work.specs.Counted.{Result, State, Outcome, done, refused, and_then, before, Merge, walk, too_much}

abbrev pub result : Bool → ℕ → ℕ → ℕ → Result
result m a b c = record { kind = m; smaller = a; larger = b; context = c }

-- a test, and a place that is looked up, for a proof by their answers
pub test {ℓ} : {X : Type 0} (P : X → Type ℓ) (t : Bool) (x y : X) → (t ≡ true → P x) → (t ≡ false → P y) → P (elim t [ true ↦ x | false ↦ y ])
test P true x y f g = f refl
test P false x y f g = g refl

pub found {ℓ} : {X : Type 0} (P : X → Type ℓ) (o : Found) (g : ℕ → X) (y : X) → ((c : ℕ) → o ≡ at c → P (g c)) → (o ≡ nowhere → P y)
    → P (elim o [ at c ↦ g c | nowhere ↦ y ])
found P (at c) g y i j = i c refl
found P nowhere g y i j = j refl

-- what holds of the sides in either order holds of the smaller and the larger
pub by_sides {ℓ} : (P : ℕ → ℕ → Type ℓ) (a b : ℕ) → P a b → P b a → P (min a b) (max a b)
by_sides P a b p q =
    below? a b
    (λ h. let l : a ≤ b = omega arith in rw (min-eq_left l, max-eq_right l) p)
    (λ h. rw (min-eq_right h, max-eq_left h) q)

module _ (inner : Merge) (t : State) (r p : ℕ) (n : Node) (q o : ℕ) (k : Node) where
  pub walk_less : r < q → walk inner t (push r p n) (push q o k) ≡ before r p (walk inner t n (push q o k))
  unfolding walk
  walk_less h = rw (lt-ltb r q h, walk)

  pub walk_greater : q < r → walk inner t (push r p n) (push q o k) ≡ before q o (walk inner t (push r p n) k)
  unfolding walk
  walk_greater h = rw (le-ltb r q (omega arith), lt-ltb q r h, walk)

  pub walk_equal : r ≡ q → walk inner t (push r p n) (push q o k) ≡ and_then ℕ Node (inner t p o) (λ c u. before r c (walk inner u n k))
  unfolding walk
  walk_equal h = rw (le-ltb r q (omega arith), le-ltb q r (omega arith), walk)

-- ---- too much work is refusal 12

pub too_much_lem : (o : Outcome ℕ) → too_much o ≡ true → o ≡ refused 12
unfolding too_much
too_much_lem (done c t) e = absurd (false≢true e)
too_much_lem (refused n) e = ap refused (eqb-true n 12 e)

pub is_too_much : (o : Outcome ℕ) → o ≡ refused 12 → too_much o ≡ true
unfolding too_much
is_too_much o e = ap too_much e
