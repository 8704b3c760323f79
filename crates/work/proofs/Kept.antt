-- What the kept results answer is right, and one more result that is right keeps them so. Nothing here has to be believed.
use Rattle.std.specs.Prelude.{◌≡◌, refl, Bool, true, false, ◌&&◌, List, [], ◌∷◌, ℕ, ◌<◌, ◌≤◌, min, max, eqb, ltb, length}
use Rattle.std.proofs.Common.{sym, ◌∙◌, arith, ltb-true, eqb-true}
use Rattle.std.proofs.lemmas.Bool.{false≢true}
use Rattle.std.specs.Bool.{beq}
use Rattle.stacks.specs.Bools.{and_both}
use Rattle.stacks.proofs.Algebra.{comm}
use Rattle.arena.specs.Store.{Store, Found, at}
use Rattle.arena.proofs.Soundness.{Sound}
use Rattle.arena.proofs.Trees.{at_inj, at_nowhere, tree_canon}
use Rattle.arena.specs.Place.{merge_s}
use Rattle.arena.proofs.Placed.{Grew, grew_refl, grew_length, grew_tree, Holds}
use Rattle.arena.proofs.Steps.{merge_holds, merge_grew, merge_known, merge_sides}
use Rattle.work.specs.Counted.{most_results, Result, State, recall, keep, completed}
use Rattle.work.proofs.CountedLaws.{result, test, by_sides}
use Rattle.work.proofs.After.{Right, AllRight, Good, After}

-- ---- what is found is right

same_kind : (m k : Bool) → beq m k ≡ true → m ≡ k
same_kind true true e = refl
same_kind true false e = absurd (false≢true e)
same_kind false true e = absurd (false≢true e)
same_kind false false e = refl

-- the key of a result
pub key_is : (m : Bool) (a b : ℕ) (r : Result) → (beq m r.kind && (eqb a r.smaller && eqb b r.larger)) ≡ true
    → (m ≡ r.kind) × (a ≡ r.smaller) × (b ≡ r.larger)
key_is m a b r q =
    let x = and_both (beq m r.kind) _ q in
    let y = and_both (eqb a r.smaller) _ x.1 in
    (same_kind m r.kind x.0, eqb-true a r.smaller y.0, eqb-true b r.larger y.1)

pub recall_right : (m : Bool) (s : Store) (a b : ℕ) (k : List Result) (c : ℕ) → AllRight s k → recall m a b k ≡ at c → Right m s a b c
unfolding recall
recall_right m s a b [] c v = λ e. absurd (at_nowhere c (sym e))
recall_right m s a b (r ∷ k) c v =
    test (λ (f : Found). f ≡ at c → Right m s a b c) (beq m r.kind && (eqb a r.smaller && eqb b r.larger)) _ _
    (λ q e. let i = key_is m a b r q in rw (i.0, i.1, i.2, ← at_inj r.context c e) v.0)
    (λ q e. recall_right m s a b k c v.1 e)

right_swap : (m : Bool) (s : Store) → Sound s → (a b c : ℕ) → Right m s a b c → Right m s b a c
right_swap m s w a b c v = record {
  left = v.right;
  right = v.left;
  known = v.known;
  is = v.is ∙ comm m _ _ (tree_canon s w a v.left).1 (tree_canon s w b v.right).1;
}

-- a result that is found for the sides in order is the merge, and nothing is made
pub hit : (m : Bool) (s : Store) → Sound s → (a b : ℕ) (k : List Result) (c : ℕ) → a < length s → b < length s → AllRight s k
    → recall m (min a b) (max a b) k ≡ at c → merge_s m s a b ≡ (c, s)
hit m s w a b k c h j v e =
    let r = recall_right m s (min a b) (max a b) k c v e in
    let q : merge_s m s (min a b) (max a b) ≡ merge_s m s a b =
    by_sides (λ x y. merge_s m s x y ≡ merge_s m s a b) a b refl (merge_sides m s w b a j h) in
    sym q ∙ merge_known m s w (min a b) (max a b) r.left r.right c r.known r.is

-- ---- what is kept is right

-- what a merge answers is right, under its sides in order
pub answer_right : (m : Bool) (s u : Store) → Sound s → (a b c : ℕ) → a < length s → b < length s → merge_s m s a b ≡ (c, u)
    → Right m u (min a b) (max a b) c
answer_right m s u w a b c h k e =
    let g : Grew s u = rw e at (merge_grew m s w a b h k) in
    let v : Holds u c _ = rw e at (merge_holds m s w a b h k) in
    let l : length s ≤ length u = grew_length s u g in
    let r : Right m u a b c = record {
      left = omega arith;
      right = omega arith;
      known = v.known;
      is = v.is ∙ rw (grew_tree s u g a h, grew_tree s u g b k);
    } in
    by_sides (λ x y. Right m u x y c) a b r (right_swap m u v.sound a b c r)

-- one more keeps them right, and no more than are to be kept
keep_right : (s : Store) (r : Result) (k : List Result) → Right r.kind s r.smaller r.larger r.context
    → AllRight s k → length k ≤ most_results → AllRight s (keep r k) × (length (keep r k) ≤ most_results)
unfolding keep
keep_right s r k x v h =
    test (λ (l : List Result). AllRight s l × (length l ≤ most_results)) (ltb (length k) most_results) _ _
    (λ q. ((x, v), omega (arith, ltb-true (length k) most_results q)))
    (λ q. (v, h))

pub completed_after : (m : Bool) (a b c : ℕ) (t : State) → Good t → Right m t.store (min a b) (max a b) c → (x : ℕ × Store) → x ≡ (c, t.store)
    → After ℕ t 0 x (completed m a b c t)
unfolding completed
completed_after m a b c t v r x e =
    let k = keep_right t.store (result m (min a b) (max a b) c) t.kept r v.right v.few in
    record {
      is = e;
      good = record { sound = v.sound; fits = v.fits; right = k.0; few = k.1; within = v.within };
      grew = grew_refl t.store;
      more = omega arith;
      spent = omega arith;
    }
