-- To believe: document 01's sentences on the wildcard merge, about membership alone. The full-context merge is the union.
use Rattle.std.specs.Prelude.{◌≡◌, ◌⊎◌, Bool, true, false, ◌||◌, List, [], ◌∷◌, ℕ}

-- a set of stacks, by which stacks are in it
abbrev pub Stacks : Type 0
Stacks = List ℕ → Bool

-- exactly the set of the empty stack
abbrev pub OnlyEmpty : Stacks → Type 0
OnlyEmpty A = (A [] ≡ true) × ((x : ℕ) (σ : List ℕ) → A (x ∷ σ) ≡ false)

-- what stands beneath the top state x
abbrev pub beneath : Stacks → ℕ → Stacks
beneath A x = λ σ. A (x ∷ σ)

-- x is a top state of the set
abbrev pub Top : Stacks → ℕ → Type 0
Top A x = (σ : List ℕ) × (A (x ∷ σ) ≡ true)

-- "Wildcard merge of A and B" is C
pub data WildcardMerge : Stacks → Stacks → Stacks → Type 0 where
  -- "if either is exactly the set of the empty stack, the result is that set"
  swallowed : {A B C : Stacks} → OnlyEmpty A ⊎ OnlyEmpty B → OnlyEmpty C → WildcardMerge A B C
  -- "Otherwise the empty stack is kept if either side has it; a top state on one side only keeps its stacks;
  -- for a top state on both sides, the two sets beneath it are merged by this same wildcard rule."
  merged : {A B C : Stacks}
      → (OnlyEmpty A ⊎ OnlyEmpty B → ⊥)
      → C [] ≡ (A [] || B [])
      → ((x : ℕ) → (Top B x → ⊥) → (σ : List ℕ) → C (x ∷ σ) ≡ A (x ∷ σ))
      → ((x : ℕ) → (Top A x → ⊥) → (σ : List ℕ) → C (x ∷ σ) ≡ B (x ∷ σ))
      → ((x : ℕ) → Top A x → Top B x → WildcardMerge (beneath A x) (beneath B x) (beneath C x))
      → WildcardMerge A B C
