-- A merge comes to what is meant, if the inner merges do: and so each merge that is deep enough. Nothing here has to be believed.
use Rattle.std.specs.Prelude.{◌≡◌, refl, Bool, true, false, ◌&&◌, ◌||◌, ltb, length}
use Rattle.std.proofs.Common.{inl, arith}
use Rattle.std.proofs.Math.Logic.{inr}
use Rattle.std.proofs.lemmas.Bool.{false≢true}
use Prim.Native.Nat.{ℕ, zero, suc, ◌<◌, ◌≤◌, ◌+◌, min, max}
use Rattle.std.proofs.Math.Dec.{eqb}
use borrow.Author.Tests.{ltb-true, ltb-false, eqb-true, eqb-false}
use Rattle.stacks.specs.Bools.{either, neither_left, neither_right, never_both}
use Rattle.arena.specs.Store.{Node, Store, tree_of, tree, node_at}
use Rattle.arena.proofs.Soundness.{Sound}
use Rattle.arena.proofs.Trees.{node_sound, tree_node}
use Rattle.arena.specs.Place.{intern, merge_s}
use Rattle.arena.proofs.Placed.{Grew, grew_refl, intern_grew}
use Rattle.arena.proofs.Steps.{merge_n, merge_holds, merge_same, merge_nodes, merge_root_left, merge_root_right}
use Rattle.encoding.specs.Decide.{fits}
use Rattle.encoding.proofs.DecideLaws.{fits_true, true_fits}
use Rattle.work.specs.Counted.{most_merges, State, and_then, recall, completed, interned, Merge, walk, made, begins, step, deep}
use Rattle.work.proofs.CountedLaws.{test, found}
use Rattle.work.proofs.After.{Good, Went, After, all_grew, seen_from, and_then_lem, and_stay}
use Rattle.work.proofs.Kept.{hit, answer_right, completed_after}
use Rattle.work.proofs.Walked.{weight, Serves, Listed, walk_after}

-- ---- a list of entries is interned

pub interned_after : (n : Node) (t : State) → Good t → Sound (intern t.store n).1 → After ℕ t 0 (intern t.store n) (interned n t)
unfolding interned
interned_after n t v w =
    let u = (intern t.store n).1 in
    let g : Grew t.store u = intern_grew t.store n in
    test (After ℕ t 0 (intern t.store n)) (fits u) _ _
    (λ q. record {
      is = refl;
      good = record { sound = w; fits = fits_true u q; right = all_grew t.store u t.kept g v.right; few = v.few; within = v.within };
      grew = g;
      more = omega arith;
      spent = omega arith;
    })
    (λ q. inl (refl, λ f. never_both (true_fits u f) q))

-- ---- a merge that is neither of equal numbers nor kept

swallowed : (m : Bool) (s : Store) → Sound s → (a b : ℕ) → a < length s → b < length s → (m && (eqb a 0 || eqb b 0)) ≡ true → merge_s m s a b ≡ (0, s)
swallowed false s w a b h k e = absurd (false≢true e)
swallowed true s w a b h k e =
    either (eqb a 0) (eqb b 0) e (λ q. merge_root_left s w a b h k (eqb-true a 0 q)) (λ q. merge_root_right s w a b h k (eqb-true b 0 q))

unswallowed : (m : Bool) (a b : ℕ) → (m && (eqb a 0 || eqb b 0)) ≡ false → m ≡ true → (0 < a) × (0 < b)
unswallowed false a b e q = absurd (false≢true q)
unswallowed true a b e q =
    let x : a ≡ 0 → ⊥ = eqb-false a 0 (neither_left (eqb a 0) (eqb b 0) e) in
    let y : b ≡ 0 → ⊥ = eqb-false b 0 (neither_right (eqb a 0) (eqb b 0) e) in
    (omega arith, omega arith)

-- the entries of a context
pub listed_at : (t : State) (a : ℕ) → Good t → a < length t.store → Listed t a 0 (node_at t.store a)
listed_at t a v h = record { rise = (node_sound t.store v.sound a h).0; known = omega arith }

module _ (m : Bool) (f : ℕ) (inner : Merge) (serves : Serves m f inner) where
  pub made_after : (t : State) (a b : ℕ) → Good t → a < length t.store → b < length t.store → a + b ≤ f
      → After ℕ t (weight (tree t.store a)) (merge_s m t.store a b) (made m inner t a b)
  unfolding made
  made_after t a b v h k small =
      let s = t.store in
      let N = node_at s a in
      let K = node_at s b in
      let X = merge_n m s N K in
      test (After ℕ t (weight (tree s a)) (merge_s m s a b)) (m && (eqb a 0 || eqb b 0)) _ _
      (λ q. and_stay ℕ t _ _ 0 v (swallowed m s v.sound a b h k q))
      (λ q.
      let nodes : merge_s m s a b ≡ intern X.1 X.0 = merge_nodes m s v.sound a b h k (unswallowed m a b q) in
      let held : Sound (intern X.1 X.0).1 = rw nodes at (merge_holds m s v.sound a b h k).sound in
      rw (nodes, tree_node s v.sound a h)
      (and_then_lem Node ℕ t (weight (tree_of (tree s) N)) 0 _ X (intern X.1 X.0) (walk inner t N K) interned
      (omega arith) (intern_grew X.1 X.0)
      (walk_after m f inner serves a b (omega arith) t N K 0 0 v (listed_at t a v h) (listed_at t b v k))
      (λ n u w. let e = w.is in rw e (interned_after n u w.good (rw e at held)))))

-- ---- a merge

pub begins_good : (t : State) → Good t → t.count < most_merges → Went ℕ t 1 (0, t.store) 0 (begins t)
unfolding begins
begins_good t v h = record {
  is = refl;
  good = record { sound = v.sound; fits = v.fits; right = v.right; few = v.few; within = omega arith };
  grew = grew_refl t.store;
  more = omega arith;
  spent = omega arith;
}

module _ (m : Bool) (f : ℕ) (inner : Merge) (serves : Serves m f inner) where
  new_after : (t : State) (a b : ℕ) → Good t → a < length t.store → b < length t.store → a + b ≤ f → t.count < most_merges
      → After ℕ t (suc (weight (tree t.store a))) (merge_s m t.store a b) (and_then ℕ ℕ (made m inner (begins t) a b) (completed m a b))
  unfolding begins
  new_after t a b v h k small less =
      let s = t.store in
      let w = weight (tree s a) in
      let X = merge_s m s a b in
      let one = begins_good t v less in
      seen_from ℕ ℕ t 1 (0, s) 0 (begins t) one w (suc w) X (and_then ℕ ℕ (made m inner (begins t) a b) (completed m a b)) (omega arith)
      (and_then_lem ℕ ℕ (begins t) w 0 w X X (made m inner (begins t) a b) (completed m a b) (omega arith) (grew_refl X.1)
      (made_after m f inner serves (begins t) a b one.good h k small)
      (λ c u q. completed_after m a b c u q.good (answer_right m s u.store v.sound a b c h k q.is) X q.is))

  pub step_serves : Serves m (suc f) (step m inner)
  unfolding step
  step_serves t a b v h k small =
      let s = t.store in
      let P = After ℕ t (suc (weight (tree s a))) (merge_s m s a b) in
      test P (eqb a b) _ _
      (λ q. and_stay ℕ t _ _ a v (merge_same m s v.sound a b h k (eqb-true a b q)))
      (λ q. found P (recall m (min a b) (max a b) t.kept) _ _
      (λ c e. and_stay ℕ t _ _ c v (hit m s v.sound a b t.kept c h k v.right e))
      (λ e. test P (ltb t.count most_merges) _ _
      (λ l. new_after t a b v h k (omega arith) (ltb-true t.count most_merges l))
      (λ l. let z : most_merges ≤ t.count = ltb-false t.count most_merges l in inr (refl, omega arith))))

pub deep_serves : (m : Bool) (f : ℕ) → Serves m f (deep m f)
unfolding deep
deep_serves m zero = λ t a b v h k small. absurd (omega arith)
deep_serves m (suc f) = step_serves m f (deep m f) (deep_serves m f)
