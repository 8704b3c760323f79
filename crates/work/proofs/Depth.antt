-- More depth changes nothing: so a merge is one step over merges, with no depth in sight. Nothing here has to be believed.
use Rattle.std.proofs.Math.Path.{◌≡◌, refl, sym, ap}
use Rattle.std.proofs.Common.{◌∙◌, arith, ltb-true}
use Rattle.std.specs.Prelude.{Bool, ◌&&◌, ◌||◌}
use Rattle.std.proofs.Math.Bool.{true, false}
use Prim.Native.Nat.{ℕ, zero, suc, ◌<◌, ◌≤◌, ◌+◌, min, max}
use Rattle.std.proofs.Math.Dec.{eqb, ltb}
use Rattle.std.proofs.Math.ListN.{length}
use Rattle.stacks.specs.Numbers.{three}
use Rattle.arena.specs.Store.{Node, end, dollar, push, Store, node_at, at, nowhere}
use Rattle.work.specs.Counted.{most_merges, State, Outcome, done, refused, and_then, recall, completed, interned}
use Rattle.work.specs.Counted.{before, Merge, walk, made, begins, step, deep, counted}
use Rattle.work.proofs.CountedLaws.{walk_less, walk_greater, walk_equal}
use Rattle.work.proofs.After.{Good, Went, After}
use Rattle.work.proofs.Walked.{Serves, Listed, listed_next, listed_on}
use Rattle.work.proofs.Served.{listed_at, begins_good, deep_serves}

-- two ways to merge that agree on numbers that add up to less than f
abbrev pub Agree : ℕ → Merge → Merge → Type 0
Agree f g h = (t : State) (a b : ℕ) → Good t → a < length t.store → b < length t.store → a + b < f → g t a b ≡ h t a b

-- what follows a step agrees, where the step is done
then_agree : (X Y : Type 0) (t : State) (w : ℕ) (x : X × Store) (o : Outcome X) (g h : X → State → Outcome Y) → After X t w x o
    → ((c : X) (u : State) → Went X t w x c u → g c u ≡ h c u) → and_then X Y o g ≡ and_then X Y o h
unfolding and_then
then_agree X Y t w x (done c u) g h a e = e c u a
then_agree X Y t w x (refused n) g h a e = refl

module _ (m : Bool) (f : ℕ) (inner outer : Merge) (serves : Serves m f inner) (agree : Agree f inner outer) where
  module _ (a b : ℕ) (small : a + b ≤ f + 1) where
    walk_agree : (t : State) (n k : Node) (lo lo' : ℕ) → Good t → Listed t a lo n → Listed t b lo' k → walk inner t n k ≡ walk outer t n k
    unfolding walk
    walk_agree t end k lo lo' v x y = refl
    walk_agree t dollar end lo lo' v x y = refl
    walk_agree t dollar dollar lo lo' v x y = refl
    walk_agree t dollar (push q o k) lo lo' v x y = ap (before q o) (walk_agree t dollar k lo (suc q) v x (listed_on t b lo' q o k y))
    walk_agree t (push r p n) end lo lo' v x y = refl
    walk_agree t (push r p n) dollar lo lo' v x y = ap (before r p) (walk_agree t n dollar (suc r) lo' v (listed_on t a lo r p n x) y)
    walk_agree t (push r p n) (push q o k) lo lo' v x y =
        three r q
        (λ h. walk_less inner t r p n q o k h
        ∙ ap (before r p) (walk_agree t n (push q o k) (suc r) lo' v (listed_on t a lo r p n x) y)
        ∙ sym (walk_less outer t r p n q o k h))
        (λ h.
        let kp : p < length t.store = omega (arith, x.rise.1, x.known) in
        let ko : o < length t.store = omega (arith, y.rise.1, y.known) in
        let less : p + o < f = omega (arith, x.rise.1, y.rise.1) in
        walk_equal inner t r p n q o k h
        ∙ then_agree ℕ Node t _ _ (inner t p o) _ _ (serves t p o v kp ko less)
        (λ c u z. ap (before r c)
        (walk_agree u n k (suc r) (suc q) z.good (listed_next t u a lo r p n z.grew x) (listed_next t u b lo' q o k z.grew y)))
        ∙ ap (λ (i : Outcome ℕ). and_then ℕ Node i (λ c u. before r c (walk outer u n k))) (agree t p o v kp ko less)
        ∙ sym (walk_equal outer t r p n q o k h))
        (λ h. walk_greater inner t r p n q o k h
        ∙ ap (before q o) (walk_agree t (push r p n) k lo (suc q) v x (listed_on t b lo' q o k y))
        ∙ sym (walk_greater outer t r p n q o k h))

  made_agree : (t : State) (a b : ℕ) → Good t → a < length t.store → b < length t.store → a + b ≤ f → made m inner t a b ≡ made m outer t a b
  unfolding made
  made_agree t a b v h k small =
      ap (λ (x : Outcome Node). elim (m && (eqb a 0 || eqb b 0)) [ true ↦ done 0 t | false ↦ and_then Node ℕ x interned ])
      (walk_agree a b (omega arith) t (node_at t.store a) (node_at t.store b) 0 0 v (listed_at t a v h) (listed_at t b v k))

  pub step_agree : Agree (suc f) (step m inner) (step m outer)
  unfolding step begins
  step_agree t a b v h k small =
      ap (λ (x : Outcome ℕ). elim (eqb a b) [
        | true ↦ done a t
        | false ↦ elim (recall m (min a b) (max a b) t.kept) [ at c ↦ done c t | nowhere ↦ x ]
      ])
      (go (ltb t.count most_merges) refl)
    where
      go : (l : Bool) → ltb t.count most_merges ≡ l
          → ◌≡◌ {A = Outcome ℕ} (elim l [ true ↦ and_then ℕ ℕ (made m inner (begins t) a b) (completed m a b) | false ↦ refused 12 ])
          (elim l [ true ↦ and_then ℕ ℕ (made m outer (begins t) a b) (completed m a b) | false ↦ refused 12 ])
      go true l =
          ap (λ (x : Outcome ℕ). and_then ℕ ℕ x (completed m a b))
          (made_agree (begins t) a b (begins_good t v (ltb-true t.count most_merges l)).good h k (omega arith))
      go false l = refl

pub deep_agree : (m : Bool) (f g : ℕ) → f ≤ g → Agree f (deep m f) (deep m g)
unfolding deep
deep_agree m zero g h = λ t a b v i j small. absurd (omega arith)
deep_agree m (suc f) zero h = absurd (omega arith)
deep_agree m (suc f) (suc g) h = step_agree m f (deep m f) (deep m g) (deep_serves m f) (deep_agree m f g (omega arith))

-- the merge is one step over merges
pub counted_step : (m : Bool) (t : State) (a b : ℕ) → Good t → a < length t.store → b < length t.store
    → counted m t a b ≡ step m (counted m) t a b
unfolding counted deep
counted_step m t a b v h k =
    step_agree m (a + b) (deep m (a + b)) (counted m) (deep_serves m (a + b))
    (λ u p o w i j less. sym (deep_agree m (suc (p + o)) (a + b) less u p o w i j (omega arith)))
    t a b v h k (omega arith)

pub counted_serves : (m : Bool) (f : ℕ) → Serves m f (counted m)
unfolding counted
counted_serves m f t a b v h k less = deep_serves m (suc (a + b)) t a b v h k (omega arith)
