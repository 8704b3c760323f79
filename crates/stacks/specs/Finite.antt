-- A set of stacks is finite: its stacks as a list. Nothing here has to be believed.
use Rattle.std.specs.Prelude.{◌≡◌, refl, ◌↔◌, ◌⊎◌, true, ◌&&◌, ℕ, eqb}
use Rattle.std.proofs.Common.{sym, ap, inl, inr, ⊎_elim, eqb-true, eq-eqb}
use Rattle.std.proofs.Math.Bool.{or-true}
use Rattle.std.proofs.lemmas.Bool.{false≢true}
use mathlib.Core.List.Memᴰ
use mathlib.Core.List.{List, [], ◌∷◌, ◌++◌, Memᴰ}
use Rattle.cases.specs.Bools.{and_both, or_cases}
use Rattle.stacks.specs.Forest.{Forest, none, mark, over, mem}

-- r on top of each
unfoldable pub topped : ℕ → List (List ℕ) → List (List ℕ)
topped r [] = []
topped r (σ ∷ l) = (r ∷ σ) ∷ topped r l

unfoldable pub stacks_of : Forest → List (List ℕ)
stacks_of none = []
stacks_of mark = [] ∷ []
stacks_of (over r b t) = topped r (stacks_of b) ++ stacks_of t

in_topped : (r : ℕ) (σ : List ℕ) (l : List (List ℕ)) → Memᴰ σ l → Memᴰ (r ∷ σ) (topped r l)
unfolding topped
in_topped r σ [] m = elim m [ ]
in_topped r σ (τ ∷ l) (Memᴰ.head e) = Memᴰ.head (ap (λ (x : List ℕ). r ∷ x) e)
in_topped r σ (τ ∷ l) (Memᴰ.tail m) = Memᴰ.tail (in_topped r σ l m)

-- what is on top, and beneath
of_topped : (r : ℕ) (ρ : List ℕ) (l : List (List ℕ)) → Memᴰ ρ (topped r l) → (σ : List ℕ) × (ρ ≡ r ∷ σ) × Memᴰ σ l
unfolding topped
of_topped r ρ [] m = absurd (Memᴰ.not-nil m)
of_topped r ρ (τ ∷ l) (Memᴰ.head e) = (τ, e, Memᴰ.head refl)
of_topped r ρ (τ ∷ l) (Memᴰ.tail m) = let h = of_topped r ρ l m in (h.0, h.1, Memᴰ.tail h.2)

mem_listed : (F : Forest) (σ : List ℕ) → mem F σ ≡ true → Memᴰ σ (stacks_of F)
unfolding mem stacks_of
mem_listed none σ e = absurd (false≢true e)
mem_listed mark [] e = Memᴰ.head refl
mem_listed mark (x ∷ σ) e = absurd (false≢true e)
mem_listed (over r b t) [] e = Memᴰ.append_right (topped r (stacks_of b)) (mem_listed t [] e)
mem_listed (over r b t) (x ∷ σ) e = go (or_cases (eqb r x && mem b σ) (mem t (x ∷ σ)) e) (mem_listed b σ) (mem_listed t (x ∷ σ))
  where
    go : ((eqb r x && mem b σ) ≡ true) ⊎ (mem t (x ∷ σ) ≡ true) → (mem b σ ≡ true → Memᴰ σ (stacks_of b))
        → (mem t (x ∷ σ) ≡ true → Memᴰ (x ∷ σ) (stacks_of t)) → Memᴰ (x ∷ σ) (topped r (stacks_of b) ++ stacks_of t)
    go (inl h) f g =
        let k = and_both (eqb r x) (mem b σ) h in
        rw (sym (eqb-true r x k.0)) (Memᴰ.append_left (stacks_of t) (in_topped r σ (stacks_of b) (f k.1)))
    go (inr h) f g = Memᴰ.append_right (topped r (stacks_of b)) (g h)

listed_mem : (F : Forest) (σ : List ℕ) → Memᴰ σ (stacks_of F) → mem F σ ≡ true
unfolding mem stacks_of
listed_mem none σ m = absurd (Memᴰ.not-nil m)
listed_mem mark σ (Memᴰ.head e) = rw e
listed_mem mark σ (Memᴰ.tail m) = absurd (Memᴰ.not-nil m)
listed_mem (over r b t) σ m =
    ⊎_elim
    (λ k. let h = of_topped r σ (stacks_of b) k in rw (h.1, eq-eqb r r refl, listed_mem b h.0 h.2))
    (λ k. in_rest σ (listed_mem t σ k))
    (Memᴰ.append_cases (topped r (stacks_of b)) m)
  where
    in_rest : (ρ : List ℕ) → mem t ρ ≡ true → mem (over r b t) ρ ≡ true
    in_rest [] e = e
    in_rest (x ∷ ρ) e = rw e (or-true (eqb r x && mem b ρ))

-- a stack is one of the set exactly if it is in the list
pub finite : (F : Forest) (σ : List ℕ) → (mem F σ ≡ true) ↔ Memᴰ σ (stacks_of F)
finite F σ = (mem_listed F σ, listed_mem F σ)
