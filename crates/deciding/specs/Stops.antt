-- A state that is listed, and configs in listed states. Nothing here has to be believed.
use Rattle.std.specs.Prelude.{◌≡◌, refl, Bool, true, false, List, [], ◌∷◌, ℕ, zero, suc, ◌<◌, eqb, length, get_or}
use Rattle.std.specs.List.{list_any}
use Rattle.std.proofs.Common.{sym, arith, eq-eqb, ne_eqb}
use Rattle.words.specs.Numbers.{two}
use Rattle.groups.specs.Config.{Config}
use Rattle.groups.specs.Layout.{config_at, config_count}
use Rattle.groups.specs.SetsLists.{any}
use Rattle.words.specs.Bools.{or_right, never_both, is_false}
use Rattle.groups.specs.Listed.{all_at, at_all}
use Rattle.groups.specs.Groups.{groups}
use Rattle.groups.specs.Answers.{many, stopped, verdict}
use Rattle.grouping.specs.Clash.{configs_of}
use Rattle.grouping.specs.Marks.{each_picked}
use Rattle.grouping.specs.declared.inner.traits.Alike.TheVariants.{State}
use Rattle.grouping.specs.declared.inner.marks.Picks.TheVariants.{Rivals}
use Rattle.deciding.specs.Alone.{Counted}
use Rattle.deciding.specs.Picked.{states_picked}

pub eqb_swap : (a b : ℕ) → eqb a b ≡ eqb b a
eqb_swap a b = two a b (λ e. rw e refl) (λ d. rw (ne_eqb a b d, ne_eqb b a (λ e. d (sym e))))

-- what the library's `contains` says
pub listed : (xs : List ℕ) (s : ℕ) → list_any (λ y. eqb y s) xs ≡ any (eqb s) xs
unfolding any
listed [] s = refl
listed (x ∷ xs) s = rw (eqb_swap x s, listed xs s)

pub listed_found : (xs : List ℕ) (s i : ℕ) → i < length xs → get_or xs i 0 ≡ s → any (eqb s) xs ≡ true
unfolding any
listed_found [] s i h e = absurd (omega arith)
listed_found (x ∷ xs) s zero h e = rw (eq-eqb s x (sym e))
listed_found (x ∷ xs) s (suc i) h e = or_right (eqb s x) (any (eqb s) xs) (listed_found xs s i (omega arith) e)

pub listed_none : (xs : List ℕ) (s : ℕ) → ((i : ℕ) → i < length xs → get_or xs i 0 ≡ s → ⊥) → any (eqb s) xs ≡ false
unfolding any
listed_none [] s f = refl
listed_none (x ∷ xs) s f = rw (ne_eqb s x (λ e. f 0 (omega arith) (sym e))) (listed_none xs s (λ i h. f (suc i) (omega arith)))

module _ (stops v : List ℕ) where
  abbrev pub Stop : ℕ → Bool
  Stop i = any (eqb (config_at v i).state) stops

  -- the configs before n have stopped
  pub record StopsBefore (n : ℕ) : Type 0 where
    pub words : Counted v
    pub less : n < config_count v
    pub before : (i : ℕ) → i < n → Stop i ≡ true

  pub stopped_all : ((i : ℕ) → i < config_count v → Stop i ≡ true) → stopped stops (configs_of v) ≡ true
  unfolding stopped
  stopped_all f = at_all (λ (c : Config). any (eqb c.state) stops) v (config_count v) f

  pub stopped_not : (i : ℕ) → i < config_count v → Stop i ≡ false → stopped stops (configs_of v) ≡ false
  unfolding stopped
  stopped_not i h e = is_false _ (λ d. never_both (all_at (λ (c : Config). any (eqb c.state) stops) v (config_count v) d i h) e)

  -- ---- the verdict, case by case

  pub verdict_stopped : stopped stops (configs_of v) ≡ true → verdict stops (configs_of v) ≡ true
  unfolding verdict
  verdict_stopped e = rw e

  module _ (e : stopped stops (configs_of v) ≡ false) where
    pub verdict_plain : any many (groups (configs_of v)) ≡ false → verdict stops (configs_of v) ≡ false
    unfolding verdict
    verdict_plain d = rw (e, d)

    pub verdict_states : any many (groups (configs_of v)) ≡ true → verdict stops (configs_of v) ≡ each_picked State Rivals (configs_of v)
    unfolding verdict
    verdict_states d = rw (e, d) (sym (states_picked (configs_of v)))
