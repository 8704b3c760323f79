-- The equations that code follows: one for each place where it answers or goes on. Nothing here has to be believed.
use Rattle.std.specs.Prelude.{◌≡◌, Bool, List, ◌∷◌, ℕ, ◌<◌, ◌≤◌, min, max, eqb, length}
use Rattle.std.proofs.Math.Path.{refl}
use Rattle.std.proofs.Common.{ap, ◌∙◌, arith}
use Rattle.std.proofs.Math.Bool.{true, false, or-true}
use borrow.Author.Tests.{eq-eqb, ne_eqb, lt-ltb, le-ltb}
use Rattle.stacks.specs.Bools.{is_false}
use Rattle.arena.specs.Store.{Node, end, dollar, push, node_at, at, nowhere, find}
use Rattle.arena.proofs.Soundness.{Full}
use Rattle.arena.proofs.Placed.{intern_found, intern_made}
use Rattle.encoding.specs.Ceilings.{Fits}
use Rattle.encoding.specs.Decide.{fits}
use Rattle.encoding.proofs.DecideLaws.{fits_true, true_fits}
use Rattle.work.specs.Counted.{most_merges, most_results, Result, State, standing, Outcome, done, refused, and_then}
use Rattle.work.specs.Counted.{recall, keep, completed, interned, before, Merge, walk, made, begins, step, counted}
use Rattle.work.proofs.CountedLaws.{walk_equal}
use Rattle.work.proofs.After.{Good}
use Rattle.work.proofs.Depth.{counted_step}

-- ---- merge: equal numbers, a result kept, too much work, and else a merge that counts

module _ (m : Bool) (t : State) (a b : ℕ) (v : Good t) (left : a < length t.store) (right : b < length t.store) where
  pub merge_equal : a ≡ b → counted m t a b ≡ done a t
  unfolding step
  merge_equal e = counted_step m t a b v left right ∙ rw (eq-eqb a b e, step)

  module _ (differ : a ≡ b → ⊥) where
    pub merge_hit : (c : ℕ) → recall m (min a b) (max a b) t.kept ≡ at c → counted m t a b ≡ done c t
    unfolding step
    merge_hit c e = counted_step m t a b v left right ∙ rw (ne_eqb a b differ, step, e)

    module _ (missed : recall m (min a b) (max a b) t.kept ≡ nowhere) where
      pub merge_refused : t.count ≡ 65536 → counted m t a b ≡ refused 12
      unfolding step
      merge_refused h = counted_step m t a b v left right ∙ rw (ne_eqb a b differ, step, missed, le-ltb t.count most_merges (omega arith))

      pub merge_counts : t.count < 65536 → counted m t a b ≡ and_then ℕ ℕ (made m (counted m) (begins t) a b) (completed m a b)
      unfolding step
      merge_counts h = counted_step m t a b v left right ∙ rw (ne_eqb a b differ, step, missed, lt-ltb t.count most_merges (omega arith))

-- ---- a merge that counts: swallowed, or walked

module _ (inner : Merge) (t : State) (a b : ℕ) where
  pub swallowed_left : a ≡ 0 → made true inner t a b ≡ done 0 t
  unfolding made
  swallowed_left e = rw (eq-eqb a 0 e, made)

  pub swallowed_right : b ≡ 0 → made true inner t a b ≡ done 0 t
  unfolding made
  swallowed_right e = rw (eq-eqb b 0 e, or-true (eqb a 0), made)

  pub walked : (m : Bool) → (m ≡ true → (0 < a) × (0 < b))
      → made m inner t a b ≡ and_then Node ℕ (walk inner t (node_at t.store a) (node_at t.store b)) interned
  unfolding made
  walked false n = refl
  walked true n = rw (ne_eqb a 0 (λ e. omega (arith, (n refl).0)), ne_eqb b 0 (λ e. omega (arith, (n refl).1)), made)

-- ---- the loop over the entries: g puts those already taken ahead of the rest

unfoldable pub onward : (Node → Node) → Outcome Node → Outcome Node
onward g o = and_then Node Node o (λ n u. done (g n) u)

pub onward_before : (g : Node → Node) (r p : ℕ) (o : Outcome Node) → onward g (before r p o) ≡ onward (λ n. g (push r p n)) o
unfolding onward before and_then
onward_before g r p (done n u) = refl
onward_before g r p (refused n) = refl

pub onward_same : (g h : Node → Node) (o : Outcome Node) → ((n : Node) → g n ≡ h n) → onward g o ≡ onward h o
unfolding onward and_then
onward_same g h (done n u) e = ap (λ (x : Node). done x u) (e n)
onward_same g h (refused n) e = refl

-- one more entry taken
pub onward_onward : (g h : Node → Node) (o : Outcome Node) → onward g (onward h o) ≡ onward (λ n. g (h n)) o
unfolding onward and_then
onward_onward g h (done n u) = refl
onward_onward g h (refused n) = refl

module _ (inner : Merge) (t : State) (r p : ℕ) (n : Node) (q o : ℕ) (k : Node) (e : r ≡ q) where
  pub both_done : (c : ℕ) (u : State) → inner t p o ≡ done c u → walk inner t (push r p n) (push q o k) ≡ before r c (walk inner u n k)
  unfolding and_then
  both_done c u h = walk_equal inner t r p n q o k e ∙ rw (h, and_then)

  pub both_refused : (i : ℕ) → inner t p o ≡ refused i → walk inner t (push r p n) (push q o k) ≡ refused i
  unfolding and_then
  both_refused i h = walk_equal inner t r p n q o k e ∙ rw (h, and_then)

pub walk_end : (inner : Merge) (t : State) (n : Node) → walk inner t n end ≡ done n t
unfolding walk
walk_end inner t end = refl
walk_end inner t dollar = refl
walk_end inner t (push r p n) = refl

-- ---- interning: found, appended, or no room

module _ (n : Node) (t : State) (h : Full n) where
  pub interned_found : (c : ℕ) → Fits t.store → find n t.store ≡ at c → interned n t ≡ done c t
  unfolding interned
  interned_found c f e = let i = intern_found n t.store h c e in rw (i, interned, true_fits t.store f, i)

  pub interned_made : find n t.store ≡ nowhere → Fits (n ∷ t.store)
      → interned n t ≡ done (length t.store) (standing (n ∷ t.store) t.kept t.count)
  unfolding interned
  interned_made e f = let i = intern_made n t.store h e in rw (i, interned, true_fits (n ∷ t.store) f, i)

  pub interned_refused : find n t.store ≡ nowhere → (Fits (n ∷ t.store) → ⊥) → interned n t ≡ refused 6
  unfolding interned
  interned_refused e f =
      let i = intern_made n t.store h e in
      let full : fits (n ∷ t.store) ≡ false = is_false _ (λ q. f (fits_true (n ∷ t.store) q)) in
      rw (i, interned, full)

-- ---- keeping: one more, or none

module _ (r : Result) (k : List Result) where
  pub keep_more : length k < 1024 → keep r k ≡ r ∷ k
  unfolding keep
  keep_more h = rw (lt-ltb (length k) most_results (omega arith), keep)

  pub keep_full : 1024 ≤ length k → keep r k ≡ k
  unfolding keep
  keep_full h = rw (le-ltb (length k) most_results (omega arith), keep)
