-- What stands beneath a top state. Every law of merges is proved by going beneath, and a set in canonical form is known by its stacks.
-- Nothing here has to be believed.
use Rattle.std.specs.Prelude.{◌≡◌, refl, true, false, List, [], ◌∷◌, ℕ, suc, ◌<◌, ◌≤◌, eqb}
use Rattle.std.proofs.Common.{sym, ◌∙◌, subst, arith, eq-eqb, ne_eqb}
use Rattle.std.proofs.Math.Bool.{or-false}
use Rattle.std.proofs.lemmas.Bool.{false≢true}
use Rattle.cases.specs.Numbers.{three, two}
use Rattle.stacks.specs.Forest.{Forest, none, mark, over, mem}
use Rattle.stacks.specs.Canon.{Some, From, Canon}

-- the set beneath the top state q; no stacks where q is no top state
unfoldable pub under : Forest → ℕ → Forest
under none q = none
under mark q = none
under (over r b t) q = elim (eqb r q) [ true ↦ b | false ↦ under t q ]

pub under_here : (r : ℕ) (b t : Forest) (q : ℕ) → r ≡ q → under (over r b t) q ≡ b
unfolding under
under_here r b t q e = rw (eq-eqb r q e, under)

pub under_past : (r : ℕ) (b t : Forest) (q : ℕ) → (r ≡ q → ⊥) → under (over r b t) q ≡ under t q
unfolding under
under_past r b t q n = rw (ne_eqb r q n, under)

pub from_le : {lo : ℕ} (l : ℕ) (F : Forest) → l ≤ lo → From lo F → From l F
from_le l none h v = tt
from_le l mark h v = tt
from_le l (over r b t) h v = (omega arith, v.1, v.2, v.3)

-- a state below all top states is none of them
pub under_low : (lo q : ℕ) (F : Forest) → From lo F → q < lo → under F q ≡ none
unfolding under
under_low lo q none v h = refl
under_low lo q mark v h = refl
under_low lo q (over r b t) v h = under_past r b t q (omega arith) ∙ under_low (suc r) q t v.3 (omega arith)

pub under_canon : (lo : ℕ) (F : Forest) (q : ℕ) → From lo F → Canon (under F q)
unfolding under
under_canon lo none q v = tt
under_canon lo mark q v = tt
under_canon lo (over r b t) q v =
    two r q
    (λ e. rw (under_here r b t q e) v.2)
    (λ n. rw (under_past r b t q n) (under_canon (suc r) t q v.3))

-- a stack is in the set exactly if its rest is beneath its top
pub mem_under : (lo : ℕ) (F : Forest) (x : ℕ) (σ : List ℕ) → From lo F → mem F (x ∷ σ) ≡ mem (under F x) σ
unfolding mem under
mem_under lo none x σ v = refl
mem_under lo mark x σ v = refl
mem_under lo (over r b t) x σ v =
    two r x
    (λ e. rw (under_here r b t x e, eq-eqb r x e, mem_under (suc r) t x σ v.3, under_low (suc r) x t v.3 (omega arith)) (or-false _))
    (λ n. rw (under_past r b t x n, ne_eqb r x n) (mem_under (suc r) t x σ v.3))

-- What holds of no stacks, and of each set of which it holds beneath every state, holds of every set.
pub by_under {ℓ} : (P : Forest → Type ℓ) → P none → ((F : Forest) → ((q : ℕ) → P (under F q)) → P F) → (F : Forest) → P F
unfolding under
by_under P base step F = step F (go F)
  where
    go : (F : Forest) (q : ℕ) → P (under F q)
    go none q = base
    go mark q = base
    go (over r b t) q =
        two r q
        (λ e. rw (under_here r b t q e) (step b (go b)))
        (λ n. rw (under_past r b t q n) (go t q))

-- ---- a canonical set is known by whether it has the empty stack and by what stands beneath each state

some_not_none : (F : Forest) → Some F → F ≡ none → ⊥
some_not_none F h e = subst Some e h

pub by_parts : (lo lo' : ℕ) (A B : Forest) → From lo A → From lo' B → mem A [] ≡ mem B [] → ((q : ℕ) → under A q ≡ under B q) → A ≡ B
unfolding mem under
by_parts lo lo' none none v w e h = refl
by_parts lo lo' none mark v w e h = absurd (false≢true e)
by_parts lo lo' none (over s c u) v w e h = absurd (some_not_none c w.1 (sym (h s ∙ under_here s c u s refl)))
by_parts lo lo' mark none v w e h = absurd (false≢true (sym e))
by_parts lo lo' mark mark v w e h = refl
by_parts lo lo' mark (over s c u) v w e h = absurd (some_not_none c w.1 (sym (h s ∙ under_here s c u s refl)))
by_parts lo lo' (over r b t) none v w e h = absurd (some_not_none b v.1 (sym (under_here r b t r refl) ∙ h r))
by_parts lo lo' (over r b t) mark v w e h = absurd (some_not_none b v.1 (sym (under_here r b t r refl) ∙ h r))
by_parts lo lo' (over r b t) (over s c u) v w e h =
    three r s
    (λ l. absurd (some_not_none b v.1 (sym (under_here r b t r refl) ∙ h r ∙ under_low (suc r) r (over s c u) (l, w.1, w.2, w.3) (omega arith))))
    (λ l.
    let beneath : b ≡ c = sym (under_here r b t r refl) ∙ h r ∙ under_here s c u r (sym l) in
    let rest : t ≡ u = by_parts (suc r) (suc s) t u v.3 w.3 e (λ q.
    two q r
    (λ k. under_low (suc r) q t v.3 (omega arith) ∙ sym (under_low (suc s) q u w.3 (omega arith)))
    (λ k. sym (under_past r b t q (omega arith)) ∙ h q ∙ under_past s c u q (omega arith))) in
    cc)
    (λ l. absurd (some_not_none c w.1 (sym (under_here s c u s refl) ∙ sym (h s) ∙ under_low (suc s) s (over r b t) (l, v.1, v.2, v.3) (omega arith))))

-- ---- a set in canonical form is known by its stacks

-- the first stack of a set that has one
unfoldable pub first : Forest → List ℕ
first none = []
first mark = []
first (over r b t) = r ∷ first b

pub mem_first : (lo : ℕ) (F : Forest) → From lo F → Some F → mem F (first F) ≡ true
unfolding mem first
mem_first lo none v h = absurd h
mem_first lo mark v h = refl
mem_first lo (over r b t) v h = rw (eq-eqb r r refl, mem_first 0 b v.2 v.1)

no_stacks : (B : Forest) → Canon B → ((σ : List ℕ) → mem none σ ≡ mem B σ) → none ≡ B
unfolding mem
no_stacks none w h = refl
no_stacks mark w h = absurd (false≢true (h []))
no_stacks (over s c u) w h = absurd (false≢true (h (first (over s c u)) ∙ mem_first 0 (over s c u) w tt))

-- Extensionality: two sets in canonical form with the same stacks are equal.
pub ext : (A B : Forest) → Canon A → Canon B → ((σ : List ℕ) → mem A σ ≡ mem B σ) → A ≡ B
ext =
    by_under (λ A. (B : Forest) → Canon A → Canon B → ((σ : List ℕ) → mem A σ ≡ mem B σ) → A ≡ B)
    (λ B v w h. no_stacks B w h)
    (λ A ih B v w h. by_parts 0 0 A B v w (h []) (λ q.
    ih q (under B q) (under_canon 0 A q v) (under_canon 0 B q w) (λ σ. sym (mem_under 0 A q σ v) ∙ h (q ∷ σ) ∙ mem_under 0 B q σ w)))
