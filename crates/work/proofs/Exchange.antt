-- The sides of a merge can be exchanged: the same answer, state, count and refusal. Nothing here has to be believed.
use Rattle.std.specs.Prelude.{◌≡◌, Bool, ◌&&◌, ◌||◌, ltb}
use Rattle.std.proofs.Math.Path.{refl, sym, ap}
use Rattle.std.proofs.Common.{◌∙◌, arith}
use Rattle.std.proofs.Math.Bool.{true, false}
use Prim.Native.Nat.{ℕ, zero, suc, ◌+◌, min, max}
use Rattle.std.proofs.Math.Nat.{min_comm, max_comm}
use Rattle.std.proofs.Math.Dec.{eqb}
use borrow.Author.Tests.{ne_eqb}
use Rattle.stacks.specs.Numbers.{two, three}
use Rattle.arena.specs.Store.{Node, end, dollar, push, node_at, Found, at, nowhere}
use Rattle.work.specs.Counted.{most_merges, State, Outcome, done, refused, and_then, recall, completed, interned}
use Rattle.work.specs.Counted.{before, Merge, walk, made, begins, step, deep, counted}
use Rattle.work.proofs.CountedLaws.{walk_less, walk_greater, walk_equal}

-- the sides can be exchanged
abbrev pub Even : Merge → Type 0
Even inner = (t : State) (a b : ℕ) → inner t a b ≡ inner t b a

then_same : (X Y : Type 0) (o : Outcome X) (g h : X → State → Outcome Y) → ((c : X) (u : State) → g c u ≡ h c u) → and_then X Y o g ≡ and_then X Y o h
unfolding and_then
then_same X Y (done c u) g h e = e c u
then_same X Y (refused n) g h e = refl

module _ (inner : Merge) (even : Even inner) where
  pub walk_even : (t : State) (n k : Node) → walk inner t n k ≡ walk inner t k n
  unfolding walk
  walk_even t end end = refl
  walk_even t end dollar = refl
  walk_even t end (push q o k) = refl
  walk_even t dollar end = refl
  walk_even t dollar dollar = refl
  walk_even t dollar (push q o k) = ap (before q o) (walk_even t dollar k)
  walk_even t (push r p n) end = refl
  walk_even t (push r p n) dollar = ap (before r p) (walk_even t n dollar)
  walk_even t (push r p n) (push q o k) =
      three r q
      (λ h. walk_less inner t r p n q o k h ∙ ap (before r p) (walk_even t n (push q o k)) ∙ sym (walk_greater inner t q o k r p n h))
      (λ h. walk_equal inner t r p n q o k h
      ∙ ap (λ (i : Outcome ℕ). and_then ℕ Node i (λ c u. before r c (walk inner u n k))) (even t p o)
      ∙ then_same ℕ Node (inner t o p) _ _ (λ c u. ap (before r c) (walk_even u n k) ∙ ap (λ (x : ℕ). before x c (walk inner u k n)) h)
      ∙ sym (walk_equal inner t q o k r p n (sym h)))
      (λ h. walk_greater inner t r p n q o k h ∙ ap (before q o) (walk_even t (push r p n) k) ∙ sym (walk_less inner t q o k r p n h))

or_swap : (a b : Bool) → (a || b) ≡ (b || a)
or_swap true true = refl
or_swap true false = refl
or_swap false true = refl
or_swap false false = refl

module _ (m : Bool) (inner : Merge) (even : Even inner) where
  pub made_even : Even (made m inner)
  unfolding made
  made_even t a b =
      let w = walk inner t (node_at t.store a) (node_at t.store b) in
      ap (λ (x : Bool). elim (m && x) [ true ↦ done 0 t | false ↦ and_then Node ℕ w interned ])
      (or_swap (eqb a 0) (eqb b 0))
      ∙ ap (λ (x : Outcome Node). elim (m && (eqb b 0 || eqb a 0)) [ true ↦ done 0 t | false ↦ and_then Node ℕ x interned ])
      (walk_even inner even t (node_at t.store a) (node_at t.store b))

  completed_even : (a b c : ℕ) (t : State) → completed m a b c t ≡ completed m b a c t
  unfolding completed
  completed_even a b c t = rw (min_comm a b, max_comm a b)

  new_even : (t : State) (a b : ℕ)
      → and_then ℕ ℕ (made m inner (begins t) a b) (completed m a b) ≡ and_then ℕ ℕ (made m inner (begins t) b a) (completed m b a)
  new_even t a b =
      ap (λ (x : Outcome ℕ). and_then ℕ ℕ x (completed m a b)) (made_even (begins t) a b)
      ∙ then_same ℕ ℕ (made m inner (begins t) b a) _ _ (completed_even a b)

  pub step_even : Even (step m inner)
  unfolding step
  step_even t a b =
      two a b
      (λ h. rw h refl)
      (λ h. rw (ne_eqb a b h, step, ne_eqb b a (λ e. h (sym e)), step)
      (ap (λ (x : ℕ). new (recall m x (max a b) t.kept) (and_then ℕ ℕ (made m inner (begins t) a b) (completed m a b))) (min_comm a b)
      ∙ ap (λ (y : ℕ). new (recall m (min b a) y t.kept) (and_then ℕ ℕ (made m inner (begins t) a b) (completed m a b))) (max_comm a b)
      ∙ ap (new (recall m (min b a) (max b a) t.kept)) (new_even t a b)))
    where
      new : Found → Outcome ℕ → Outcome ℕ
      new o x = elim o [ at c ↦ done c t | nowhere ↦ elim (ltb t.count most_merges) [ true ↦ x | false ↦ refused 12 ] ]

pub deep_even : (m : Bool) (f : ℕ) → Even (deep m f)
unfolding deep
deep_even m zero = λ t a b. refl
deep_even m (suc f) = step_even m (deep m f) (deep_even m f)

-- either side may stand first, whatever the state
pub counted_even : (m : Bool) → Even (counted m)
unfolding counted
counted_even m t a b = let e : a + b ≡ b + a = omega arith in deep_even m (suc (a + b)) t a b ∙ ap (λ (f : ℕ). deep m (suc f) t b a) e
