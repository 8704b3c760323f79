-- The first config whose first one is marked, or is not, and what the marks say of it. Nothing here has to be believed.
use Rattle.std.specs.Prelude.{◌≡◌, refl, Bool, true, false, ◌&&◌, not, List, ℕ, ◌<◌, ◌+◌, eqb, Option, Some, None}
use Rattle.std.proofs.Common.{sym, ◌∙◌, arith, below_more}
use Rattle.std.specs.Bool.{beq}
use Rattle.std.specs.Option.{is_some}
use Rattle.std.proofs.lemmas.Bool.{false≢true}
use Rattle.grouping.specs.Marks.{picks, each_picked, leader_at, mark_at, Marked}
use Rattle.words.specs.Bools.{is_false, never_both}
use Rattle.groups.specs.Config.{Config}
use Rattle.groups.specs.Layout.{config_at, config_count}
use Rattle.groups.specs.SetsLists.{any, all}
use Rattle.groups.specs.Words.{configs_in}
use Rattle.groups.specs.Listed.{all_at, at_all}
use Rattle.grouping.specs.Alike.{alike_of}
use Rattle.grouping.specs.Led.{Led}
use Rattle.grouping.specs.Marks.Laws.{mark_tells}
use Rattle.grouping.specs.declared.inner.traits.Alike.{Alike}
use Rattle.grouping.specs.declared.inner.marks.Picks.{Picks}

-- is the first one of config i marked?
unfoldable pub marks : List ℕ → ℕ → Bool
marks z i = not (eqb (mark_at z (leader_at z i)) 0)

-- of none of the first m configs it is b
abbrev pub NotYet : List ℕ → Bool → ℕ → Type 0
NotYet z b m = (j : ℕ) → j < m → marks z j ≡ b → ⊥

abbrev pub FirstMarked : ℕ → List ℕ → Bool → Option ℕ → Type 0
FirstMarked n z b (Some i) = (i < n) × (marks z i ≡ b) × NotYet z b i
FirstMarked n z b None = NotYet z b n

pub not_yet_more : (z : List ℕ) (b : Bool) (m : ℕ) → NotYet z b m → (marks z m ≡ b → ⊥) → NotYet z b (m + 1)
not_yet_more z b m f d = below_more (λ j. marks z j ≡ b → ⊥) m f d

-- as the code compares them
pub beq_same : (a b : Bool) → beq a b ≡ true → a ≡ b
beq_same true true e = refl
beq_same true false e = absurd (false≢true e)
beq_same false true e = absurd (false≢true e)
beq_same false false e = refl

pub beq_other : (a b : Bool) → beq a b ≡ false → a ≡ b → ⊥
beq_other true true e q = false≢true (sym e)
beq_other true false e q = false≢true (sym q)
beq_other false true e q = false≢true q
beq_other false false e q = false≢true (sym e)

-- ---- as the marks say it

-- config i has one alike that is picked
unfoldable pub served : List ℕ → Alike → Picks → ℕ → Bool
served v k p i = any (λ d. alike_of k (config_at v i) d && picks p (config_at v i) d) (configs_in v (config_count v))

abbrev pub FirstPicked : List ℕ → Alike → Picks → Bool → Option ℕ → Type 0
FirstPicked v k p b (Some i) = (i < config_count v) × (served v k p i ≡ b) × ((j : ℕ) → j < i → served v k p j ≡ b → ⊥)
FirstPicked v k p b None = (j : ℕ) → j < config_count v → served v k p j ≡ b → ⊥

module _ {v : List ℕ} {k : Alike} {p : Picks} {z u : List ℕ} (x : Led v k (config_count v) z) (w : Marked v p (config_count v) z u) where
  told : (i : ℕ) → i < config_count v → marks u i ≡ served v k p i
  unfolding marks served
  told i h = mark_tells x w i h

  pub first_picked : (b : Bool) (r : Option ℕ) → FirstMarked (config_count v) u b r → FirstPicked v k p b r
  first_picked b (Some i) f = (f.0, sym (told i f.0) ∙ f.1, λ j l e. f.2 j l (told j (omega (arith, f.0)) ∙ e))
  first_picked b None f = λ j l e. f j l (told j l ∙ e)

-- every config is served, or the first that is not is found
pub each_served : (v : List ℕ) (k : Alike) (p : Picks) → FirstPicked v k p false None → true ≡ each_picked k p (configs_in v (config_count v))
unfolding each_picked served
each_served v k p f =
    sym (at_all (λ c. any (λ d. alike_of k c d && picks p c d) (configs_in v (config_count v))) v (config_count v) (λ i h. is_true _ (f i h)))
  where
    is_true : (b : Bool) → (b ≡ false → ⊥) → b ≡ true
    is_true true n = refl
    is_true false n = absurd (n refl)

pub one_not_served : (v : List ℕ) (k : Alike) (p : Picks) (i : ℕ) → FirstPicked v k p false (Some i) → false ≡ each_picked k p (configs_in v (config_count v))
unfolding each_picked served
one_not_served v k p i f =
    let t : Config → Bool = λ c. any (λ d. alike_of k c d && picks p c d) (configs_in v (config_count v)) in
    sym (is_false (all t (configs_in v (config_count v))) (λ e. never_both (all_at t v (config_count v) e i f.0) f.1))

pub each_found : (v : List ℕ) (k : Alike) (p : Picks) (r : Option ℕ) (b : Bool) → is_some r ≡ not b → FirstPicked v k p false r → b ≡ each_picked k p (configs_in v (config_count v))
each_found v k p (Some i) true e f = absurd (false≢true (sym e))
each_found v k p (Some i) false e f = one_not_served v k p i f
each_found v k p None true e f = each_served v k p f
each_found v k p None false e f = absurd (false≢true e)
