-- Document 01's sentences on merges hold of `merge_t` and leave no choice. Nothing here has to be believed.
use Rattle.std.specs.Prelude.{◌≡◌, ◌⊎◌, Bool, true, false, ◌||◌, List, [], ◌∷◌, ℕ}
use Rattle.std.proofs.Common.{sym, ◌∙◌}
use Rattle.stacks.specs.Rules.{Stacks, OnlyEmpty, beneath, Top, WildcardMerge, swallowed, merged}

-- x is a top state of no stack
abbrev pub NoTop : Stacks → ℕ → Type 0
NoTop A x = Top A x → ⊥

-- "Full-context merge: the union."
abbrev pub FullMerge : Stacks → Stacks → Stacks → Type 0
FullMerge A B C = (σ : List ℕ) → C σ ≡ (A σ || B σ)

-- the rule of the mode: `false` full-context, `true` by wildcard
abbrev pub MergeRule : Bool → Stacks → Stacks → Stacks → Type 0
MergeRule false A B C = FullMerge A B C
MergeRule true A B C = WildcardMerge A B C

-- ---- the rules leave no choice

pub same_empty : (C D : Stacks) → OnlyEmpty C → OnlyEmpty D → (σ : List ℕ) → C σ ≡ D σ
same_empty C D c d [] = c.0 ∙ sym d.0
same_empty C D c d (x ∷ σ) = c.1 x σ ∙ sym (d.1 x σ)

-- the second sentence, of a result that is at hand
pub record Otherwise (A B D : Stacks) : Type 0 where
  pub empty : D [] ≡ (A [] || B [])
  pub left : (x : ℕ) → NoTop B x → (σ : List ℕ) → D (x ∷ σ) ≡ A (x ∷ σ)
  pub right : (x : ℕ) → NoTop A x → (σ : List ℕ) → D (x ∷ σ) ≡ B (x ∷ σ)
  pub both : (x : ℕ) → Top A x → Top B x → WildcardMerge (beneath A x) (beneath B x) (beneath D x)

pub otherwise : {A B D : Stacks} → WildcardMerge A B D → (OnlyEmpty A ⊎ OnlyEmpty B → ⊥) → Otherwise A B D
otherwise (swallowed h d) n = absurd (n h)
otherwise (merged k e l r b) n = record { empty = e; left = l; right = r; both = b }

pub is_swallowed : {A B D : Stacks} → WildcardMerge A B D → OnlyEmpty A ⊎ OnlyEmpty B → OnlyEmpty D
is_swallowed (swallowed h d) k = d
is_swallowed (merged n e l r b) k = absurd (n k)
