-- What the counted merge is worth: a reader's list. Nothing here has to be believed.
use Rattle.std.specs.Prelude.{◌≡◌, refl, ◌↔◌, ◌⊎◌, Bool, ℕ, suc, ◌<◌, ◌≤◌, ◌+◌, length}
use Rattle.std.proofs.Common.{◌∙◌, inl, inr, arith}
use mathlib.Core.List.{List, [], ◌++◌}
use Rattle.arena.specs.Store.{Store, tree}
use Rattle.arena.proofs.Soundness.{Sound}
use Rattle.arena.specs.Place.{merge_s}
use Rattle.encoding.specs.Ceilings.{Fits}
use Rattle.work.specs.Counted.{Result, State, standing, Outcome, done, refused, step, counted, counting}
use Rattle.work.proofs.After.{Good, Refused, After}
use Rattle.work.proofs.Walked.{weight}
use Rattle.work.proofs.Depth.{counted_step, counted_serves}
use Rattle.work.proofs.Exchange.{counted_even}
use Rattle.work.proofs.Keys.{Distinct, Keeps, counted_tidy}

-- ---- from any state in which a call can stand

module _ (m : Bool) (t : State) (a b : ℕ) (good : Good t) (left : a < length t.store) (right : b < length t.store) where
  -- the merge is one step over merges
  pub one_step : counted m t a b ≡ step m (counted m) t a b
  one_step = counted_step m t a b good left right

  -- what is done is the merge, in a state as good; what is refused is above a ceiling, or too much
  pub came : After ℕ t (suc (weight (tree t.store a))) (merge_s m t.store a b) (counted m t a b)
  came = counted_serves m (suc (a + b)) t a b good left right (omega arith)

  -- results that are kept stay as they are, and no key is kept twice
  pub kept_stay : (c : ℕ) (u : State) → counted m t a b ≡ done c u
      → ((k : List Result) × (u.kept ≡ k ++ t.kept)) × (Distinct t.kept → Distinct u.kept)
  kept_stay c u e =
      let v : Keeps (suc (a + b)) t u = rw e at (counted_tidy m t a b good left right) in
      (v.front, v.distinct)

-- ---- a call, on a sound store within the ceilings

module _ (m : Bool) (s : Store) (a b : ℕ) (sound : Sound s) (fits : Fits s) (left : a < length s) (right : b < length s) where
  begun : Good (standing s [] 0)
  begun = record { sound = sound; fits = fits; right = tt; few = omega arith; within = omega arith }

  ended : (o : Outcome ℕ) → counting m s a b ≡ o → After ℕ (standing s [] 0) (suc (weight (tree s a))) (merge_s m s a b) o
  unfolding counting
  ended o e = rw e at (came m (standing s [] 0) a b begun left right)

  -- A. Where it ends with a number, number and store are those of `merge_s`.
  pub answer_is : (c : ℕ) (u : State) → counting m s a b ≡ done c u → merge_s m s a b ≡ (c, u.store)
  answer_is c u e = (ended (done c u) e).is

  -- B. The count of an answer is never above 65,536;
  pub count_within : (c : ℕ) (u : State) → counting m s a b ≡ done c u → u.count ≤ 65536
  count_within c u e = omega (arith, (ended (done c u) e).good.within)

  -- nor above one more than the left side's entries, counted at each depth;
  pub count_at_most : (c : ℕ) (u : State) → counting m s a b ≡ done c u → u.count ≤ suc (weight (tree s a))
  count_at_most c u e = omega (arith, (ended (done c u) e).spent)

  -- and no more than 1,024 results are kept, each under a key of its own.
  pub kept_within : (c : ℕ) (u : State) → counting m s a b ≡ done c u → (length u.kept ≤ 1024) × Distinct u.kept
  unfolding counting
  kept_within c u e = (omega (arith, (ended (done c u) e).good.few), (kept_stay m (standing s [] 0) a b begun left right c u e).1 tt)

  -- C. An answer is within the ceilings of contexts and entries.
  pub answer_fits : (c : ℕ) (u : State) → counting m s a b ≡ done c u → Fits (merge_s m s a b).1
  answer_fits c u e = rw (answer_is c u e) (ended (done c u) e).good.fits

  -- D. A refusal is 6, and the merge is above a ceiling; or 12, and the left side has 65,536 entries or more, counted at each depth.
  pub refusal_is : (n : ℕ) → counting m s a b ≡ refused n → ((n ≡ 6) × (Fits (merge_s m s a b).1 → ⊥)) ⊎ ((n ≡ 12) × (65536 ≤ weight (tree s a)))
  refusal_is n e = go (ended (refused n) e)
    where
      go : Refused (standing s [] 0) (suc (weight (tree s a))) (merge_s m s a b).1 n
          → ((n ≡ 6) × (Fits (merge_s m s a b).1 → ⊥)) ⊎ ((n ≡ 12) × (65536 ≤ weight (tree s a)))
      go (inl x) = inl x
      go (inr x) = inr (x.0, omega (arith, x.1))

  -- E. Where it is not refused 12: refused 6 exactly if `merge_s` ends above a ceiling, and else answered.
  module _ (light : counting m s a b ≡ refused 12 → ⊥) where
    by_outcome : (X : Type 0) → ((c : ℕ) (u : State) → counting m s a b ≡ done c u → X) → (counting m s a b ≡ refused 6 → X) → X
    by_outcome X answered full = go (counting m s a b) refl
      where
        go : (o : Outcome ℕ) → counting m s a b ≡ o → X
        go (done c u) e = answered c u e
        go (refused n) e = elim (refusal_is n e) [ inl x ↦ full (rw (← x.0) e) | inr x ↦ absurd (light (rw (← x.0) e)) ]

    pub full_exactly : (counting m s a b ≡ refused 6) ↔ (Fits (merge_s m s a b).1 → ⊥)
    full_exactly = (
      λ e f. elim (refusal_is 6 e) [ inl x ↦ x.1 f | inr x ↦ absurd (omega (arith, x.0)) ],
      λ n. by_outcome (counting m s a b ≡ refused 6) (λ c u e. absurd (n (answer_fits c u e))) (λ e. e),
    )

    pub else_answered : Fits (merge_s m s a b).1 → (u : State) × (counting m s a b ≡ done (merge_s m s a b).0 u)
    else_answered f =
        by_outcome ((u : State) × (counting m s a b ≡ done (merge_s m s a b).0 u))
        (λ c u e. (u, rw (answer_is c u e) e))
        (λ e. absurd (full_exactly.0 e f))

  -- F. So a merge whose left side has fewer than 65,536 entries, counted at each depth, is not refused 12.
  pub light_left : weight (tree s a) < 65536 → counting m s a b ≡ refused 12 → ⊥
  light_left h e = elim (refusal_is 12 e) [ inl x ↦ omega (arith, x.0) | inr x ↦ omega (arith, x.1) ]

-- G. The sides can be exchanged: the same number, store, count and refusal. So F holds of the right side too.
pub sides_exchanged : (m : Bool) (s : Store) (a b : ℕ) → counting m s a b ≡ counting m s b a
unfolding counting
sides_exchanged m s a b = counted_even m (standing s [] 0) a b

pub light_right : (m : Bool) (s : Store) (a b : ℕ) → Sound s → Fits s → a < length s → b < length s
    → weight (tree s b) < 65536 → counting m s a b ≡ refused 12 → ⊥
light_right m s a b w f left right h e = light_left m s b a w f right left h (sides_exchanged m s b a ∙ e)
