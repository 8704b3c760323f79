-- Document 01's sentences on merges leave no choice and hold of `merge_t`. Nothing here has to be believed.
use Rattle.std.specs.Prelude.{◌≡◌, refl, Bool, true, false, List, [], ◌∷◌, ℕ}
use Rattle.std.proofs.Common.{sym, ap, ◌∙◌, inl, inr, ⊎_elim}
use Rattle.std.proofs.Math.Path.{subst₃, fun_ext}
use Rattle.std.proofs.lemmas.Bool.{false≢true}
use Rattle.stacks.specs.Forest.{Forest, none, mark, over, mem}
use Rattle.stacks.specs.Canon.{Canon}
use Rattle.stacks.specs.Beneath.{under, under_canon, mem_under, by_under, first, mem_first, ext}
use Rattle.stacks.specs.Merge.{is_mark, merge_e, merge_t}
use Rattle.stacks.proofs.MergeLaws.{merge_t_plain, merge_t_full, none_merge_t, merge_t_none, mark_merge_t, merge_t_mark}
use Rattle.stacks.proofs.Algebra.{mark?, under_merge, empty_merge, from_merge, canon_merge}
use Rattle.cases.specs.Bools.{bool_stable, is_false}
use Rattle.stacks.specs.Rules.{Stacks, OnlyEmpty, beneath, Top, WildcardMerge, swallowed, merged}
use Rattle.stacks.proofs.RulesLaws.{FullMerge, MergeRule, NoTop, is_swallowed, otherwise, same_empty}

-- x is a top state of both sides, or of one side at most; all but settled: a falsehood follows from each
pub by_tops : (A B : Stacks) (x : ℕ) → (NoTop A x → ⊥) → (NoTop B x → ⊥) → (Top A x → Top B x → ⊥) → ⊥
by_tops A B x a b both = a (λ s. b (λ t. both s t))

-- Any two results of one wildcard merge have the same stacks, whatever the sets are.
pub wildcard_determined : {A B C : Stacks} → WildcardMerge A B C → (D : Stacks) → WildcardMerge A B D → (σ : List ℕ) → C σ ≡ D σ
wildcard_determined {C = C} (swallowed h c) D w σ = same_empty C D c (is_swallowed w h) σ
wildcard_determined (merged n e l r b) D w [] = e ∙ sym (otherwise w n).empty
wildcard_determined {A = A} {B = B} {C = C} (merged n e l r b) D w (x ∷ σ) =
    let o = otherwise w n in
    bool_stable (C (x ∷ σ)) (D (x ∷ σ)) λ d.
    by_tops A B x
    (λ k. d (r x k σ ∙ sym (o.right x k σ)))
    (λ k. d (l x k σ ∙ sym (o.left x k σ)))
    (λ i j. d (wildcard_determined (b x i j) (beneath D x) (o.both x i j) σ))

-- Two results of one merge, of either mode, have the same stacks.
pub rule_determined : (m : Bool) (A B C D : Stacks) → MergeRule m A B C → MergeRule m A B D → (σ : List ℕ) → C σ ≡ D σ
rule_determined false A B C D f g σ = f σ ∙ sym (g σ)
rule_determined true A B C D f g σ = wildcard_determined f D g σ

-- ---- the rules hold of `merge_t`

-- how a merge goes: a side is the empty stack alone and swallows the other, or the entries are merged
pub plain? {ℓ} : {X : Type ℓ} (m : Bool) (A B : Forest)
    → (A ≡ mark → merge_t m A B ≡ mark → X)
    → (B ≡ mark → merge_t m A B ≡ mark → X)
    → ((m ≡ true → (is_mark A ≡ false) × (is_mark B ≡ false)) → merge_t m A B ≡ merge_e m A B → X)
    → X
plain? false A B f g h = h (λ e. absurd (false≢true e)) (merge_t_full A B)
plain? true A B f g h =
    mark? A (λ a. f a (rw (a, mark_merge_t))) λ a.
    mark? B (λ b. g b (rw (b, merge_t_mark))) λ b.
    h (λ e. (a, b)) (merge_t_plain true A B a b)

-- what stands beneath a state of merged entries, as stacks
pub mem_merge : (m : Bool) (A B : Forest) (x : ℕ) (σ : List ℕ) → Canon A → Canon B
    → mem (merge_e m A B) (x ∷ σ) ≡ mem (merge_t m (under A x) (under B x)) σ
mem_merge m A B x σ v w = mem_under 0 _ x σ (from_merge m A B 0 v w) ∙ ap (λ (F : Forest). mem F σ) (under_merge m x A B 0 0 v w)

-- Full-context merge: a stack is in the result exactly if it is in a side.
pub full_merge : (A B : Forest) → Canon A → Canon B → FullMerge (mem A) (mem B) (mem (merge_t false A B))
unfolding merge_t
full_merge A B v w [] = ap (λ (F : Forest). mem F []) (merge_t_full A B) ∙ empty_merge false A B
full_merge A B v w (x ∷ σ) =
    rw (merge_t_full A B, mem_merge false A B x σ v w, mem_under 0 A x σ v, mem_under 0 B x σ w)
    (full_merge (under A x) (under B x) (under_canon 0 A x v) (under_canon 0 B x w) σ)

mark_only : OnlyEmpty (mem mark)
unfolding mem
mark_only = (refl, λ x σ. refl)

-- a set that is exactly the empty stack is `mark`
only_mark : (F : Forest) → Canon F → is_mark F ≡ false → OnlyEmpty (mem F) → ⊥
unfolding mem is_mark first
only_mark none v n o = false≢true o.0
only_mark mark v n o = false≢true (sym n)
only_mark (over r b t) v n o = false≢true (sym (o.1 r (first b)) ∙ mem_first 0 (over r b t) v tt)

-- a state that tops no stack has nothing beneath it
no_top : (F : Forest) (x : ℕ) → Canon F → NoTop (mem F) x → under F x ≡ none
unfolding mem
no_top F x v n = ext (under F x) none (under_canon 0 F x v) tt (λ σ. sym (mem_under 0 F x σ v) ∙ is_false (mem F (x ∷ σ)) (λ e. n (σ, e)))

-- beneath a state, as sets by their stacks
pub beneath_under : (F : Forest) (x : ℕ) → Canon F → mem (under F x) ≡ beneath (mem F) x
beneath_under F x v = fun_ext (λ σ. sym (mem_under 0 F x σ v))

-- the sentences hold of the merge if they hold beneath each top state of the left side
wildcard_step : (A B : Forest) → Canon A → Canon B
    → ((x : ℕ) → Top (mem A) x → WildcardMerge (mem (under A x)) (mem (under B x)) (mem (merge_t true (under A x) (under B x))))
    → WildcardMerge (mem A) (mem B) (mem (merge_t true A B))
wildcard_step A B v w ih =
    plain? true A B
    (λ a e. rw (e, a) (swallowed (inl mark_only) mark_only))
    (λ b e. rw (e, b) (swallowed (inr mark_only) mark_only))
    (λ n e. rw e (merged {A = mem A} {B = mem B} {C = mem (merge_e true A B)}
    (⊎_elim (only_mark A v (n refl).0) (only_mark B w (n refl).1))
    (empty_merge true A B)
    (λ x k σ. rw (mem_merge true A B x σ v w, no_top B x w k, merge_t_none) (sym (mem_under 0 A x σ v)))
    (λ x k σ. rw (mem_merge true A B x σ v w, no_top A x v k, none_merge_t) (sym (mem_under 0 B x σ w)))
    (λ x i j. subst₃ WildcardMerge (beneath_under A x v) (beneath_under B x w) (fun_ext (λ σ. sym (mem_merge true A B x σ v w))) (ih x i))))

-- Wildcard merge: document 01's sentences hold of the result.
pub wildcard_merge : (A B : Forest) → Canon A → Canon B → WildcardMerge (mem A) (mem B) (mem (merge_t true A B))
unfolding mem
wildcard_merge =
    by_under (λ A. (B : Forest) → Canon A → Canon B → WildcardMerge (mem A) (mem B) (mem (merge_t true A B)))
    (λ B v w. wildcard_step none B v w (λ x i. absurd (false≢true i.1)))
    (λ A ih B v w. wildcard_step A B v w (λ x i. ih x (under B x) (under_canon 0 A x v) (under_canon 0 B x w)))

-- A merge, of either mode, follows the rule of its kind.
pub merge_rule : (m : Bool) (A B : Forest) → Canon A → Canon B → MergeRule m (mem A) (mem B) (mem (merge_t m A B))
merge_rule false A B v w = full_merge A B v w
merge_rule true A B v w = wildcard_merge A B v w

-- The rules determine the result: a canonical set that satisfies them for the same sides is the merge.
pub rule_unique : (m : Bool) (A B C : Forest) → Canon A → Canon B → Canon C → MergeRule m (mem A) (mem B) (mem C) → C ≡ merge_t m A B
rule_unique m A B C u v w h = ext C (merge_t m A B) w (canon_merge m A B u v) (rule_determined m (mem A) (mem B) (mem C) _ h (merge_rule m A B u v))
