-- Laws of the merges, once over the mode: what stands beneath a state, canonical form, commutative, idempotent, associative.
-- Nothing here has to be believed.
use Rattle.std.specs.Prelude.{◌≡◌, refl, Bool, true, false, ◌&&◌, ◌||◌, [], ℕ, suc, ◌<◌}
use Rattle.std.proofs.Common.{sym, ap, ◌∙◌, arith}
use Rattle.std.proofs.Math.Bool.{or-false, or_self, or_comm, or_assoc}
use Rattle.std.proofs.lemmas.Bool.{false≢true}
use Rattle.cases.specs.Numbers.{three, two}
use Rattle.stacks.specs.Forest.{Forest, none, mark, over, mem}
use Rattle.stacks.specs.Canon.{Some, From, Canon}
use Rattle.stacks.specs.Beneath.{under, under_here, under_past, from_le, under_low, under_canon, by_parts, by_under}
use Rattle.stacks.specs.Merge.{is_mark, wild, merge_e, merge_t}
use Rattle.stacks.proofs.MergeLaws.{merge_less, merge_equal, merge_greater, merge_e_none, none_merge_t, merge_t_none, mark_merge_t, merge_t_mark, merge_t_plain}

-- ---- induction along a merge of entries

pub by_merge {ℓ} : (P : Forest → Forest → Type ℓ)
    → ((B : Forest) → P none B)
    → ((A : Forest) → P A none)
    → P mark mark
    → ((s : ℕ) (c u : Forest) → P mark u → P mark (over s c u))
    → ((r : ℕ) (b t : Forest) → P t mark → P (over r b t) mark)
    → ((r : ℕ) (b t : Forest) (s : ℕ) (c u : Forest) → r < s → P t (over s c u) → P (over r b t) (over s c u))
    → ((r : ℕ) (b t : Forest) (s : ℕ) (c u : Forest) → r ≡ s → P b c → P t u → P (over r b t) (over s c u))
    → ((r : ℕ) (b t : Forest) (s : ℕ) (c u : Forest) → s < r → P (over r b t) u → P (over r b t) (over s c u))
    → (A B : Forest) → P A B
by_merge P nB An mm mo om less equal greater none B = nB B
by_merge P nB An mm mo om less equal greater mark none = An mark
by_merge P nB An mm mo om less equal greater mark mark = mm
by_merge P nB An mm mo om less equal greater mark (over s c u) =
    mo s c u (by_merge P nB An mm mo om less equal greater mark u)
by_merge P nB An mm mo om less equal greater (over r b t) none = An (over r b t)
by_merge P nB An mm mo om less equal greater (over r b t) mark =
    om r b t (by_merge P nB An mm mo om less equal greater t mark)
by_merge P nB An mm mo om less equal greater (over r b t) (over s c u) =
    three r s
    (λ h. less r b t s c u h (by_merge P nB An mm mo om less equal greater t (over s c u)))
    (λ h. equal r b t s c u h (by_merge P nB An mm mo om less equal greater b c) (by_merge P nB An mm mo om less equal greater t u))
    (λ h. greater r b t s c u h (by_merge P nB An mm mo om less equal greater (over r b t) u))

-- what holds of the empty stack alone and of the merged entries holds of the merge
pub wild_cases {ℓ} : (P : Forest → Type ℓ) (m : Bool) (A B C : Forest) → P mark → P C → P (wild m A B C)
unfolding wild
wild_cases P m A B C p q = elim (m && (is_mark A || is_mark B)) as (λ t. P (elim t [ true ↦ mark | false ↦ C ])) [ true ↦ p | false ↦ q ]

-- ---- what stands beneath a state of the merged entries, and the empty stack

-- beneath a state stands the merge of what stood beneath it
pub under_merge : (m : Bool) (q : ℕ) (A B : Forest) (lo lo' : ℕ) → From lo A → From lo' B → under (merge_e m A B) q ≡ merge_t m (under A q) (under B q)
unfolding merge_e under
under_merge m q =
    by_merge (λ A B. (lo lo' : ℕ) → From lo A → From lo' B → under (merge_e m A B) q ≡ merge_t m (under A q) (under B q))
    (λ B lo lo' v w. sym (none_merge_t m (under B q)))
    (λ A lo lo' v w. rw (merge_e_none, merge_t_none))
    (λ lo lo' v w. sym (none_merge_t m none))
    (λ s c u ih lo lo' v w. two s q
    (λ e. rw (under_here s _ _ q e, under_here s _ _ q e, none_merge_t))
    (λ n. rw (under_past s _ _ q n, under_past s _ _ q n) (ih lo (suc s) v w.3)))
    (λ r b t ih lo lo' v w. two r q
    (λ e. rw (under_here r _ _ q e, under_here r _ _ q e, merge_t_none))
    (λ n. rw (under_past r _ _ q n, under_past r _ _ q n) (ih (suc r) lo' v.3 w)))
    (λ r b t s c u h ih lo lo' v w. rw (merge_less m r b t s c u h) (two r q
    (λ e. rw (under_here r _ _ q e, under_here r _ _ q e, under_low (suc r) q (over s c u) (h, w.1, w.2, w.3) (omega arith), merge_t_none))
    (λ n. rw (under_past r _ _ q n, under_past r _ _ q n) (ih (suc r) lo' v.3 w))))
    (λ r b t s c u h hb ht lo lo' v w. rw (merge_equal m r b t s c u h) (two r q
    (λ e. rw (under_here r _ _ q e, under_here r _ _ q e, under_here s _ _ q (omega arith)))
    (λ n. rw (under_past r _ _ q n, under_past r _ _ q n, under_past s _ _ q (omega arith)) (ht (suc r) (suc s) v.3 w.3))))
    (λ r b t s c u h ih lo lo' v w. rw (merge_greater m r b t s c u h) (two s q
    (λ e. rw (under_here s _ _ q e, under_here s _ _ q e, under_low (suc s) q (over r b t) (h, v.1, v.2, v.3) (omega arith), none_merge_t))
    (λ n. rw (under_past s _ _ q n, under_past s _ _ q n) (ih lo (suc s) v w.3))))

pub empty_merge : (m : Bool) (A B : Forest) → mem (merge_e m A B) [] ≡ (mem A [] || mem B [])
unfolding merge_e mem
empty_merge m =
    by_merge (λ A B. mem (merge_e m A B) [] ≡ (mem A [] || mem B []))
    (λ B. refl)
    (λ A. rw (merge_e_none, or-false))
    refl
    (λ s c u ih. ih)
    (λ r b t ih. ih)
    (λ r b t s c u h ih. rw (merge_less m r b t s c u h) ih)
    (λ r b t s c u h hb ht. rw (merge_equal m r b t s c u h) ht)
    (λ r b t s c u h ih. rw (merge_greater m r b t s c u h) ih)

-- ---- there is a stack, and the form stays canonical

some_merge_e : (m : Bool) (A B : Forest) → Some A → Some (merge_e m A B)
unfolding merge_e
some_merge_e m none B h = absurd h
some_merge_e m mark none h = tt
some_merge_e m mark mark h = tt
some_merge_e m mark (over s c u) h = tt
some_merge_e m (over r b t) none h = tt
some_merge_e m (over r b t) mark h = tt
some_merge_e m (over r b t) (over s c u) h =
    three r s (λ k. rw (merge_less m r b t s c u k) tt) (λ k. rw (merge_equal m r b t s c u k) tt) (λ k. rw (merge_greater m r b t s c u k) tt)

-- Non-emptiness: a merge with a set that has a stack has one.
pub some_merge : (m : Bool) (A B : Forest) → Some A → Some (merge_t m A B)
unfolding merge_t
some_merge m A B h = wild_cases Some m A B _ tt (some_merge_e m A B h)

pub from_merge : (m : Bool) (A B : Forest) (lo : ℕ) → From lo A → From lo B → From lo (merge_e m A B)
unfolding merge_e merge_t
from_merge m =
    by_merge (λ A B. (lo : ℕ) → From lo A → From lo B → From lo (merge_e m A B))
    (λ B lo v w. w)
    (λ A lo v w. rw merge_e_none v)
    (λ lo v w. tt)
    (λ s c u ih lo v w. (w.0, w.1, w.2, ih (suc s) tt w.3))
    (λ r b t ih lo v w. (v.0, v.1, v.2, ih (suc r) v.3 tt))
    (λ r b t s c u h ih lo v w. rw (merge_less m r b t s c u h) (v.0, v.1, v.2, ih (suc r) v.3 (h, w.1, w.2, w.3)))
    (λ r b t s c u h hb ht lo v w. rw (merge_equal m r b t s c u h)
    (v.0, some_merge m b c v.1, wild_cases Canon m b c _ tt (hb 0 v.2 w.2), ht (suc r) v.3 (from_le (suc r) u (omega arith) w.3)))
    (λ r b t s c u h ih lo v w. rw (merge_greater m r b t s c u h) (w.0, w.1, w.2, ih (suc s) (h, v.1, v.2, v.3) w.3))

-- Canonical in, canonical out.
pub canon_merge : (m : Bool) (A B : Forest) → Canon A → Canon B → Canon (merge_t m A B)
unfolding merge_t
canon_merge m A B v w = wild_cases Canon m A B _ tt (from_merge m A B 0 v w)

-- ---- commutative, idempotent

wild_comm : (m : Bool) (A B C : Forest) → wild m A B C ≡ wild m B A C
unfolding wild
wild_comm m A B C = rw (or_comm (is_mark A) (is_mark B), wild)

pub comm : (m : Bool) (A B : Forest) → Canon A → Canon B → merge_t m A B ≡ merge_t m B A
unfolding merge_t
comm m =
    by_under (λ A. (B : Forest) → Canon A → Canon B → merge_t m A B ≡ merge_t m B A)
    (λ B v w. none_merge_t m B ∙ sym (merge_t_none m B))
    (λ A ih B v w. wild_comm m A B _ ∙ ap (wild m B A)
    (by_parts 0 0 _ _ (from_merge m A B 0 v w) (from_merge m B A 0 w v)
    (rw (empty_merge, empty_merge) (or_comm (mem A []) (mem B [])))
    (λ q. under_merge m q A B 0 0 v w ∙ ih q (under B q) (under_canon 0 A q v) (under_canon 0 B q w) ∙ sym (under_merge m q B A 0 0 w v))))

wild_self : (m : Bool) (A : Forest) → wild m A A A ≡ A
unfolding wild is_mark
wild_self false A = refl
wild_self true none = refl
wild_self true mark = refl
wild_self true (over r b t) = refl

pub idem : (m : Bool) (A : Forest) → Canon A → merge_t m A A ≡ A
unfolding merge_t
idem m =
    by_under (λ A. Canon A → merge_t m A A ≡ A)
    (λ v. none_merge_t m none)
    (λ A ih v. ap (wild m A A)
    (by_parts 0 0 _ _ (from_merge m A A 0 v v) v
    (empty_merge m A A ∙ or_self _)
    (λ q. under_merge m q A A 0 0 v v ∙ ih q (under_canon 0 A q v))) ∙ wild_self m A)

-- ---- associative

-- a set is exactly the empty stack, or not
pub mark? {ℓ} : {X : Type ℓ} (A : Forest) → (A ≡ mark → X) → (is_mark A ≡ false → X) → X
unfolding is_mark
mark? none f g = g refl
mark? mark f g = f refl
mark? (over r b t) f g = g refl

-- the entries of two sets, neither of them the empty stack alone, do not merge to it
plain_merge : (m : Bool) (A B : Forest) → is_mark A ≡ false → is_mark B ≡ false → is_mark (merge_e m A B) ≡ false
unfolding is_mark merge_e
plain_merge m none B h k = k
plain_merge m mark B h k = absurd (false≢true (sym h))
plain_merge m (over r b t) none h k = refl
plain_merge m (over r b t) mark h k = absurd (false≢true (sym k))
plain_merge m (over r b t) (over s c u) h k =
    three r s (λ l. rw (merge_less m r b t s c u l)) (λ l. rw (merge_equal m r b t s c u l)) (λ l. rw (merge_greater m r b t s c u l))

entries_assoc : (m : Bool) (A B C : Forest) → Canon A → Canon B → Canon C
    → ((q : ℕ) → merge_t m (merge_t m (under A q) (under B q)) (under C q) ≡ merge_t m (under A q) (merge_t m (under B q) (under C q)))
    → merge_e m (merge_e m A B) C ≡ merge_e m A (merge_e m B C)
entries_assoc m A B C u v w h =
    let ab : Canon (merge_e m A B) = from_merge m A B 0 u v in
    let bc : Canon (merge_e m B C) = from_merge m B C 0 v w in
    by_parts 0 0 _ _ (from_merge m _ C 0 ab w) (from_merge m A _ 0 u bc)
    (simp empty_merge (or_assoc (mem A []) (mem B []) (mem C [])))
    (λ q. rw (under_merge m q (merge_e m A B) C 0 0 ab w, under_merge m q A (merge_e m B C) 0 0 u bc, under_merge m q A B 0 0 u v, under_merge m q B C 0 0 v w) (h q))

swallow_assoc : (m : Bool) (A B C : Forest) → merge_e m (merge_e m A B) C ≡ merge_e m A (merge_e m B C)
    → merge_t m (merge_t m A B) C ≡ merge_t m A (merge_t m B C)
unfolding merge_t wild
swallow_assoc false A B C e = e
swallow_assoc true A B C e =
    mark? A (λ a. rw (a, mark_merge_t, mark_merge_t, mark_merge_t)) λ a.
    mark? B (λ b. rw (b, merge_t_mark, mark_merge_t, merge_t_mark)) λ b.
    mark? C (λ c. rw (c, merge_t_mark, merge_t_mark, merge_t_mark)) λ c.
    rw (
      merge_t_plain true A B a b,
      merge_t_plain true B C b c,
      merge_t_plain true _ C (plain_merge true A B a b) c,
      merge_t_plain true A _ a (plain_merge true B C b c),
    )
    e

pub assoc : (m : Bool) (A B C : Forest) → Canon A → Canon B → Canon C → merge_t m (merge_t m A B) C ≡ merge_t m A (merge_t m B C)
assoc m =
    by_under (λ A. (B C : Forest) → Canon A → Canon B → Canon C → merge_t m (merge_t m A B) C ≡ merge_t m A (merge_t m B C))
    (λ B C u v w. rw (none_merge_t m B, none_merge_t))
    (λ A ih B C u v w. swallow_assoc m A B C (entries_assoc m A B C u v w (λ q.
    ih q (under B q) (under C q) (under_canon 0 A q u) (under_canon 0 B q v) (under_canon 0 C q w))))
