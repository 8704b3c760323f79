-- Results are kept once for each key, and stay: so it does not matter in which order they are looked through. Nothing here has to be believed.
use Rattle.std.specs.Prelude.{◌≡◌, Bool, ◌&&◌, ◌||◌, List, [], ◌∷◌, ◌++◌, ltb}
use Rattle.std.proofs.Math.Path.{refl}
use Rattle.std.proofs.Common.{sym, ap, ◌∙◌, append_assoc, arith, ltb-true}
use Rattle.std.specs.Bool.{beq}
use Prim.Native.Nat.{ℕ, zero, suc, ◌<◌, ◌≤◌, ◌+◌, min, max}
use Rattle.std.proofs.Math.Dec.{eqb}
use Rattle.std.proofs.Math.ListN.{length}
use Rattle.stacks.specs.Numbers.{three}
use Rattle.arena.specs.Store.{Node, end, dollar, push, Store, node_at, Found, nowhere}
use Rattle.arena.specs.Place.{intern}
use Rattle.encoding.specs.Decide.{fits}
use Rattle.work.specs.Counted.{most_merges, most_results, Result, State, standing, Outcome, done, refused, and_then}
use Rattle.work.specs.Counted.{recall, keep, completed, interned, before, Merge, walk, made, begins, step, deep, counted}
use Rattle.work.proofs.CountedLaws.{result, test, found, walk_less, walk_greater, walk_equal}
use Rattle.work.proofs.After.{Good, Went, After}
use Rattle.work.proofs.Kept.{key_is}
use Rattle.work.proofs.Walked.{Serves, Listed, listed_next, listed_on, walk_after}
use Rattle.work.proofs.Served.{listed_at, begins_good, made_after, deep_serves}

-- no two results have the same key
abbrev pub Distinct : List Result → Type 0
Distinct [] = Unit {0}
Distinct (r ∷ k) = (recall r.kind r.smaller r.larger k ≡ nowhere) × Distinct k

-- from t to u results have been kept, none is gone, each has a key of its own, and none has sides that add up to f or more
pub record Keeps (f : ℕ) (t u : State) : Type 0 where
  pub front : (k : List Result) × (u.kept ≡ k ++ t.kept)
  pub distinct : Distinct t.kept → Distinct u.kept
  pub same : (m : Bool) (x y : ℕ) → f ≤ x + y → recall m x y u.kept ≡ recall m x y t.kept

abbrev pub Tidy : (X : Type 0) → ℕ → State → Outcome X → Type 0
Tidy X f t (done c u) = Keeps f t u
Tidy X f t (refused n) = Unit {0}

stay : (f : ℕ) (t u : State) → u.kept ≡ t.kept → Keeps f t u
stay f t u e = record { front = ([], e); distinct = λ d. rw e d; same = λ m x y h. ap (recall m x y) e }

onward : (f g h : ℕ) (t u z : State) → f ≤ h → g ≤ h → Keeps f t u → Keeps g u z → Keeps h t z
onward f g h t u z i j a b = record {
  front = (
    b.front.0 ++ a.front.0,
    b.front.1 ∙ ap (λ (x : List Result). b.front.0 ++ x) a.front.1 ∙ sym (append_assoc b.front.0 a.front.0 t.kept),
  );
  distinct = λ d. b.distinct (a.distinct d);
  same = λ m x y l. b.same m x y (omega arith) ∙ a.same m x y (omega arith);
}

tidy_on : (X : Type 0) (f g h : ℕ) (t u : State) (o : Outcome X) → f ≤ h → g ≤ h → Keeps f t u → Tidy X g u o → Tidy X h t o
tidy_on X f g h t u (done c z) i j a b = onward f g h t u z i j a b
tidy_on X f g h t u (refused n) i j a b = tt

tidy_then : (X Y : Type 0) (f g h : ℕ) (t : State) (w : ℕ) (x : X × Store) (o : Outcome X) (next : X → State → Outcome Y) → f ≤ h → g ≤ h
    → After X t w x o → Tidy X f t o → ((c : X) (u : State) → Went X t w x c u → Keeps f t u → Tidy Y g u (next c u))
    → Tidy Y h t (and_then X Y o next)
unfolding and_then
tidy_then X Y f g h t w x (done c u) next i j a b n = tidy_on Y f g h t u (next c u) i j b (n c u a b)
tidy_then X Y f g h t w x (refused n) next i j a b k = tt

tidy_before : (f : ℕ) (t : State) (r p : ℕ) (o : Outcome Node) → Tidy Node f t o → Tidy Node f t (before r p o)
unfolding before and_then
tidy_before f t r p (done n u) a = a
tidy_before f t r p (refused n) a = tt

-- ---- one result more

recall_other : (m : Bool) (x y : ℕ) (r : Result) (k : List Result) → (x + y ≡ r.smaller + r.larger → ⊥) → recall m x y (r ∷ k) ≡ recall m x y k
unfolding recall
recall_other m x y r k n =
    test (λ (o : Found). o ≡ recall m x y k) (beq m r.kind && (eqb x r.smaller && eqb y r.larger)) _ _
    (λ q. let i = key_is m x y r q in absurd (n (omega (arith, i.1, i.2))))
    (λ q. refl)

tidy_completed : (m : Bool) (a b c : ℕ) (t : State) → recall m (min a b) (max a b) t.kept ≡ nowhere → Tidy ℕ (suc (a + b)) t (completed m a b c t)
unfolding completed keep
tidy_completed m a b c t e =
    let r = result m (min a b) (max a b) c in
    test (λ (k : List Result). Keeps (suc (a + b)) t (standing t.store k t.count)) (ltb (length t.kept) most_results) _ _
    (λ q. record { front = (r ∷ [], refl); distinct = λ d. (e, d); same = λ k x y h. recall_other k x y r t.kept (λ i. omega arith) })
    (λ q. stay (suc (a + b)) t t refl)

tidy_interned : (f : ℕ) (n : Node) (t : State) → Tidy ℕ f t (interned n t)
unfolding interned
tidy_interned f n t = test (Tidy ℕ f t) (fits (intern t.store n).1) _ _ (λ q. stay f t _ refl) (λ q. tt)

-- ---- the merge

abbrev TidyUpTo : ℕ → Merge → Type 0
TidyUpTo f inner = (t : State) (a b : ℕ) → Good t → a < length t.store → b < length t.store → a + b < f → Tidy ℕ (suc (a + b)) t (inner t a b)

module _ (m : Bool) (f : ℕ) (inner : Merge) (serves : Serves m f inner) (tidy : TidyUpTo f inner) where
  module _ (a b : ℕ) (small : a + b ≤ f + 1) where
    tidy_walk : (t : State) (n k : Node) (lo lo' : ℕ) → Good t → Listed t a lo n → Listed t b lo' k → Tidy Node (a + b) t (walk inner t n k)
    unfolding walk
    tidy_walk t end k lo lo' v x y = stay (a + b) t t refl
    tidy_walk t dollar end lo lo' v x y = stay (a + b) t t refl
    tidy_walk t dollar dollar lo lo' v x y = stay (a + b) t t refl
    tidy_walk t dollar (push q o k) lo lo' v x y =
        tidy_before (a + b) t q o (walk inner t dollar k) (tidy_walk t dollar k lo (suc q) v x (listed_on t b lo' q o k y))
    tidy_walk t (push r p n) end lo lo' v x y = stay (a + b) t t refl
    tidy_walk t (push r p n) dollar lo lo' v x y =
        tidy_before (a + b) t r p (walk inner t n dollar) (tidy_walk t n dollar (suc r) lo' v (listed_on t a lo r p n x) y)
    tidy_walk t (push r p n) (push q o k) lo lo' v x y =
        three r q
        (λ h. rw (walk_less inner t r p n q o k h)
        (tidy_before (a + b) t r p (walk inner t n (push q o k)) (tidy_walk t n (push q o k) (suc r) lo' v (listed_on t a lo r p n x) y)))
        (λ h.
        let kp : p < length t.store = omega (arith, x.rise.1, x.known) in
        let ko : o < length t.store = omega (arith, y.rise.1, y.known) in
        let less : p + o < f = omega (arith, x.rise.1, y.rise.1) in
        rw (walk_equal inner t r p n q o k h)
        (tidy_then ℕ Node (suc (p + o)) (a + b) (a + b) t _ _ (inner t p o) (λ c u. before r c (walk inner u n k))
        (omega (arith, x.rise.1, y.rise.1)) (omega arith)
        (serves t p o v kp ko less) (tidy t p o v kp ko less)
        (λ c u z _. tidy_before (a + b) u r c (walk inner u n k)
        (tidy_walk u n k (suc r) (suc q) z.good (listed_next t u a lo r p n z.grew x) (listed_next t u b lo' q o k z.grew y)))))
        (λ h. rw (walk_greater inner t r p n q o k h)
        (tidy_before (a + b) t q o (walk inner t (push r p n) k) (tidy_walk t (push r p n) k lo (suc q) v x (listed_on t b lo' q o k y))))

  tidy_made : (t : State) (a b : ℕ) → Good t → a < length t.store → b < length t.store → a + b ≤ f → Tidy ℕ (a + b) t (made m inner t a b)
  unfolding made
  tidy_made t a b v h k small =
      let s = t.store in
      let x = listed_at t a v h in
      let y = listed_at t b v k in
      test (Tidy ℕ (a + b) t) (m && (eqb a 0 || eqb b 0)) _ _
      (λ q. stay (a + b) t t refl)
      (λ q. tidy_then Node ℕ (a + b) (a + b) (a + b) t _ _ (walk inner t (node_at s a) (node_at s b)) interned (omega arith) (omega arith)
      (walk_after m f inner serves a b (omega arith) t (node_at s a) (node_at s b) 0 0 v x y)
      (tidy_walk a b (omega arith) t (node_at s a) (node_at s b) 0 0 v x y)
      (λ n u z _. tidy_interned (a + b) n u))

  tidy_new : (t : State) (a b : ℕ) → Good t → a < length t.store → b < length t.store → a + b ≤ f → t.count < most_merges
      → recall m (min a b) (max a b) t.kept ≡ nowhere → Tidy ℕ (suc (a + b)) t (and_then ℕ ℕ (made m inner (begins t) a b) (completed m a b))
  unfolding begins
  tidy_new t a b v h k small less missed =
      let one = begins_good t v less in
      tidy_on ℕ 0 (suc (a + b)) (suc (a + b)) t (begins t) (and_then ℕ ℕ (made m inner (begins t) a b) (completed m a b))
      (omega arith) (omega arith) (stay 0 t (begins t) refl)
      (tidy_then ℕ ℕ (a + b) (suc (a + b)) (suc (a + b)) (begins t) _ _ (made m inner (begins t) a b) (completed m a b) (omega arith) (omega arith)
      (made_after m f inner serves (begins t) a b one.good h k small)
      (tidy_made (begins t) a b one.good h k small)
      (λ c u z kept. tidy_completed m a b c u (kept.same m (min a b) (max a b) (omega arith) ∙ missed)))

  tidy_step : TidyUpTo (suc f) (step m inner)
  unfolding step
  tidy_step t a b v h k small =
      test (Tidy ℕ (suc (a + b)) t) (eqb a b) _ _
      (λ q. stay (suc (a + b)) t t refl)
      (λ q. found (Tidy ℕ (suc (a + b)) t) (recall m (min a b) (max a b) t.kept) _ _
      (λ c e. stay (suc (a + b)) t t refl)
      (λ e. test (Tidy ℕ (suc (a + b)) t) (ltb t.count most_merges) _ _
      (λ l. tidy_new t a b v h k (omega arith) (ltb-true t.count most_merges l) e)
      (λ l. tt)))

deep_tidy : (m : Bool) (f : ℕ) → TidyUpTo f (deep m f)
unfolding deep
deep_tidy m zero = λ t a b v h k small. absurd (omega arith)
deep_tidy m (suc f) = tidy_step m f (deep m f) (deep_serves m f) (deep_tidy m f)

pub counted_tidy : (m : Bool) (t : State) (a b : ℕ) → Good t → a < length t.store → b < length t.store
    → Tidy ℕ (suc (a + b)) t (counted m t a b)
unfolding counted
counted_tidy m t a b v h k = deep_tidy m (suc (a + b)) t a b v h k (omega arith)
