-- What a wildcard merge may lose, from document 01's sentences alone. Nothing here has to be believed.
use Rattle.std.specs.Prelude.{◌≡◌, refl, ◌↔◌, ◌⊎◌, Bool, true, false, ◌||◌, List, [], ◌∷◌, ℕ}
use Rattle.std.proofs.Common.{sym, ap, ◌∙◌, subst, inl, inr}
use Rattle.std.proofs.Math.Bool.{or-true}
use Rattle.std.proofs.lemmas.Bool.{false≢true}
use Rattle.cases.specs.Bools.{bool_stable, or_cases}
use Rattle.stacks.specs.Forest.{Forest, none, mark, over, mem}
use Rattle.stacks.specs.Canon.{Some, Canon}
use Rattle.stacks.specs.Beneath.{under, under_canon, mem_under, first, mem_first}
use Rattle.stacks.specs.Rules.{Stacks, OnlyEmpty, beneath, Top, WildcardMerge, swallowed, merged}
use Rattle.stacks.proofs.RulesLaws.{NoTop}
use Rattle.stacks.proofs.RulesTheorems.{by_tops, beneath_under}
use Rattle.stacks.specs.Losses.{BeginsWith, anything, below, going_on, EndsAt}

-- ---- the sides of the sentences can be exchanged

or_swap : (a b : Bool) → (a || b) ≡ (b || a)
or_swap true true = refl
or_swap true false = refl
or_swap false true = refl
or_swap false false = refl

swap : {P Q : Type 0} → P ⊎ Q → Q ⊎ P
swap (inl p) = inr p
swap (inr q) = inl q

pub exchanged : {A B C : Stacks} → WildcardMerge A B C → WildcardMerge B A C
exchanged (swallowed h c) = swallowed (swap h) c
exchanged {A} {B} (merged n e l r b) = merged (λ h. n (swap h)) (e ∙ or_swap (A []) (B [])) r l (λ x i j. exchanged (b x j i))

-- ---- nothing is made up

-- a stack of the only empty one's set is the empty stack
only_empty : (A : Stacks) → OnlyEmpty A → (σ : List ℕ) → A σ ≡ true → σ ≡ []
only_empty A h [] e = refl
only_empty A h (x ∷ σ) e = absurd (false≢true (sym (h.1 x σ) ∙ e))

empty_of : (A B : Stacks) → OnlyEmpty A ⊎ OnlyEmpty B → (A [] || B []) ≡ true
empty_of A B (inl a) = rw a.0
empty_of A B (inr b) = rw b.0 (or-true (A []))

-- Each stack of the result is a stack of one of the sides.
pub nothing_made_up : {A B C : Stacks} → WildcardMerge A B C → (σ : List ℕ) → C σ ≡ true → (A σ || B σ) ≡ true
nothing_made_up {A} {B} {C} (swallowed h c) σ e = rw (only_empty C c σ e) (empty_of A B h)
nothing_made_up (merged n k l r b) [] e = sym k ∙ e
nothing_made_up {A} {B} {C} (merged n k l r b) (x ∷ σ) e =
    bool_stable (A (x ∷ σ) || B (x ∷ σ)) true λ d.
    by_tops A B x
    (λ t. d (ap (λ (q : Bool). A (x ∷ σ) || q) (sym (r x t σ) ∙ e) ∙ or-true (A (x ∷ σ))))
    (λ t. d (ap (λ (q : Bool). q || B (x ∷ σ)) (sym (l x t σ) ∙ e)))
    (λ i j. d (nothing_made_up (b x i j) σ e))

-- ---- a stack that both sides hold is in the result, whole

pub held_by_both : {A B C : Stacks} → WildcardMerge A B C → (σ : List ℕ) → A σ ≡ true → B σ ≡ true → C σ ≡ true
held_by_both {A} {B} {C} (swallowed (inl a) c) σ p q = rw (only_empty A a σ p) c.0
held_by_both {A} {B} {C} (swallowed (inr a) c) σ p q = rw (only_empty B a σ q) c.0
held_by_both (merged n k l r b) [] p q = k ∙ rw p
held_by_both (merged n k l r b) (x ∷ σ) p q = held_by_both (b x (σ, p) (σ, q)) σ p q

-- ---- tails may go

-- some beginning of the stack is in the set
unfoldable begun : Stacks → List ℕ → Bool
begun C [] = C []
begun C (x ∷ σ) = C [] || begun (beneath C x) σ

begun_with : (C : Stacks) (σ : List ℕ) → begun C σ ≡ true → (ρ : List ℕ) × BeginsWith σ ρ × (C ρ ≡ true)
unfolding begun
begun_with C [] e = ([], anything, e)
begun_with C (x ∷ σ) e = go (or_cases (C []) (begun (beneath C x) σ) e) (begun_with (beneath C x) σ)
  where
    go : (C [] ≡ true) ⊎ (begun (beneath C x) σ ≡ true)
        → (begun (beneath C x) σ ≡ true → (ρ : List ℕ) × BeginsWith σ ρ × (C (x ∷ ρ) ≡ true)) → (ρ : List ℕ) × BeginsWith (x ∷ σ) ρ × (C ρ ≡ true)
    go (inl h) f = ([], anything, h)
    go (inr h) f = let k = f h in (x ∷ k.0, below k.1, k.2)

begun_whole : (C : Stacks) (σ : List ℕ) → C σ ≡ true → begun C σ ≡ true
unfolding begun
begun_whole C [] e = e
begun_whole C (x ∷ σ) e = ap (λ (q : Bool). C [] || q) (begun_whole (beneath C x) σ e) ∙ or-true (C [])

begun_empty : (C : Stacks) (σ : List ℕ) → C [] ≡ true → begun C σ ≡ true
unfolding begun
begun_empty C [] e = e
begun_empty C (x ∷ σ) e = rw e

begun_beneath : (C : Stacks) (x : ℕ) (σ : List ℕ) → begun (beneath C x) σ ≡ true → begun C (x ∷ σ) ≡ true
unfolding begun
begun_beneath C x σ e = ap (λ (q : Bool). C [] || q) e ∙ or-true (C [])

left_begun : {A B C : Stacks} → WildcardMerge A B C → (σ : List ℕ) → A σ ≡ true → begun C σ ≡ true
left_begun {A} {B} {C} (swallowed h c) σ e = begun_empty C σ c.0
left_begun {A} {B} {C} (merged n k l r b) [] e = begun_empty C [] (k ∙ rw e)
left_begun {A} {B} {C} (merged n k l r b) (x ∷ σ) e =
    bool_stable (begun C (x ∷ σ)) true λ d.
    by_tops A B x
    (λ t. t (σ, e))
    (λ t. d (begun_whole C (x ∷ σ) (l x t σ ∙ e)))
    (λ i j. d (begun_beneath C x σ (left_begun (b x i j) σ e)))

-- Each stack of either side begins, from its top, with some stack of the result.
pub tails_may_go : {A B C : Stacks} → WildcardMerge A B C → (σ : List ℕ) → (A σ || B σ) ≡ true → (ρ : List ℕ) × BeginsWith σ ρ × (C ρ ≡ true)
tails_may_go {A} {B} {C} m σ e = begun_with C σ (go (or_cases (A σ) (B σ) e))
  where
    go : (A σ ≡ true) ⊎ (B σ ≡ true) → begun C σ ≡ true
    go (inl h) = left_begun m σ h
    go (inr h) = left_begun (exchanged m) σ h

-- ---- what is lost exactly: where the other side ends

not_nil : (x : ℕ) (σ : List ℕ) → [] ≡ x ∷ σ → ⊥
not_nil x σ e = false≢true (ap has e)
  where
    has : List ℕ → Bool
    has [] = false
    has (x ∷ σ) = true

tail_same : {x : ℕ} {σ ρ : List ℕ} → x ∷ ρ ≡ x ∷ σ → ρ ≡ σ
tail_same {σ = σ} e = ap rest e
  where
    rest : List ℕ → List ℕ
    rest [] = []
    rest (y ∷ τ) = τ

-- the empty stack goes on from ρ exactly if ρ is in the set
goes_on : (A : Stacks) (ρ : List ℕ) → going_on A ρ [] ≡ A ρ
unfolding going_on
goes_on A [] = refl
goes_on A (x ∷ ρ) = goes_on (beneath A x) ρ

nothing_else : (ρ : List ℕ) → BeginsWith [] ρ → ρ ≡ []
nothing_else [] anything = refl
nothing_else (_ ∷ _) p = elim p [ ]

-- a stack of a side is lost where the other side ends at a shorter beginning of it
ends_lost : {A B C : Stacks} → WildcardMerge A B C → (σ ρ : List ℕ) → BeginsWith σ ρ → (ρ ≡ σ → ⊥) → A σ ≡ true → EndsAt B ρ → C σ ≡ false
unfolding going_on
ends_lost (swallowed h c) [] ρ p d e k = absurd (d (nothing_else ρ p))
ends_lost (swallowed h c) (x ∷ σ) ρ p d e k = c.1 x σ
ends_lost (merged n g l r b) σ [] p d e k = absurd (n (inr k))
ends_lost (merged n g l r b) [] (_ ∷ ρ) p d e k = elim p [ ]
ends_lost {B = B} (merged n g l r b) (x ∷ σ) (_ ∷ ρ) (below p) d e k =
    ends_lost (b x (σ, e) (ρ, sym (goes_on (beneath B x) ρ) ∙ k.0)) σ ρ p (λ q. d (ap (λ (τ : List ℕ). x ∷ τ) q)) e k

-- it is settled for each state whether it tops a stack that begins so
Settled : Stacks → Type 0
Settled B = (ρ : List ℕ) (x : ℕ) → Top (going_on B ρ) x ⊎ NoTop (going_on B ρ) x

lost_ends : {A B C : Stacks} → WildcardMerge A B C → Settled B → (σ : List ℕ) → A σ ≡ true → C σ ≡ false
    → (ρ : List ℕ) × BeginsWith σ ρ × (ρ ≡ σ → ⊥) × EndsAt B ρ
unfolding going_on Settled
lost_ends (swallowed h c) s [] e f = absurd (false≢true (sym f ∙ c.0))
lost_ends (swallowed (inl a) c) s (x ∷ σ) e f = absurd (false≢true (sym (a.1 x σ) ∙ e))
lost_ends (swallowed (inr a) c) s (x ∷ σ) e f = ([], anything, not_nil x σ, a)
lost_ends (merged n g l r b) s [] e f = absurd (false≢true (sym f ∙ g ∙ rw e))
lost_ends {A} {B} {C} (merged n g l r b) s (x ∷ σ) e f = go (s [] x) (λ t. lost_ends (b x (σ, e) t) (λ ρ. s (x ∷ ρ)) σ e f)
  where
    go : Top B x ⊎ NoTop B x → (Top B x → (ρ : List ℕ) × BeginsWith σ ρ × (ρ ≡ σ → ⊥) × EndsAt (beneath B x) ρ)
        → (ρ : List ℕ) × BeginsWith (x ∷ σ) ρ × (ρ ≡ x ∷ σ → ⊥) × EndsAt B ρ
    go (inl t) h = let k = h t in (x ∷ k.0, below k.1, λ q. k.2 (tail_same q), k.3)
    go (inr t) h = absurd (false≢true (sym f ∙ l x t σ ∙ e))

-- of the sets in a store it is settled

some? : (F : Forest) → (F ≡ none) ⊎ Some F
some? none = inl refl
some? mark = inr tt
some? (over r b t) = inr tt

tops? : (F : Forest) → Canon F → (x : ℕ) → Top (mem F) x ⊎ NoTop (mem F) x
unfolding mem
tops? F v x = go (some? (under F x))
  where
    go : (under F x ≡ none) ⊎ Some (under F x) → Top (mem F) x ⊎ NoTop (mem F) x
    go (inl e) = inr (λ t. false≢true (sym (mem_under 0 F x t.0 v ∙ ap (λ (G : Forest). mem G t.0) e) ∙ t.1))
    go (inr h) = inl (first (under F x), mem_under 0 F x _ v ∙ mem_first 0 (under F x) (under_canon 0 F x v) h)

settled : (F : Forest) → Canon F → Settled (mem F)
unfolding going_on Settled
settled F v [] x = tops? F v x
settled F v (y ∷ ρ) x =
    subst (λ (A : Stacks). Top (going_on A ρ) x ⊎ NoTop (going_on A ρ) x) (beneath_under F y v) (settled (under F y) (under_canon 0 F y v) ρ x)

-- A stack of one side is lost exactly if the other side ends at a beginning of it that is shorter.
pub lost_exactly : {A C : Stacks} (B : Forest) → Canon B → WildcardMerge A (mem B) C → (σ : List ℕ) → A σ ≡ true
    → (C σ ≡ false) ↔ ((ρ : List ℕ) × BeginsWith σ ρ × (ρ ≡ σ → ⊥) × EndsAt (mem B) ρ)
lost_exactly B v m σ e = (lost_ends m (settled B v) σ e, λ h. ends_lost m σ h.0 h.1 h.2 e h.3)
