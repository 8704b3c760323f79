-- The verdict says yes exactly if document 01's sentence holds; and the answers on no configs. Nothing here has to be believed.
use Rattle.std.specs.Prelude.{◌≡◌, refl, ◌↔◌, Bool, true, false, ◌&&◌, not, ℕ, eqb}
use Rattle.std.proofs.Common.{inl, inr, ⊎_elim, eqb-true, eq-eqb}
use mathlib.Core.List.{List, [], flat_map}
use Rattle.std.proofs.lemmas.Bool.{not-true}
use Rattle.sets.specs.Config.{Config}
use Rattle.sets.specs.Lists.{any, all}
use Rattle.sets.specs.Bools.{never_both, is_false, both_true, or_right}
use Rattle.groups.specs.Lists.{In, which}
use Rattle.groups.specs.Lists.Laws.{every_map}
use Rattle.groups.specs.Lists.Tests.{and_true, or_true, true_or_left, any_exact, all_exact, every_passes}
use Rattle.groups.specs.Groups.{firsts, groups, rising}
use Rattle.groups.specs.Answers.{none, many, conflicting_alts, all_subsets_conflict, all_subsets_equal, agree, single_viable_alt, unique_alt, stopped, just_one, verdict}
use Rattle.groups.specs.Sentences.{Stopped, JustOne, VerdictYes}
use Rattle.groups.proofs.Conflicts.{any_many}
use Rattle.groups.proofs.Equal.{in_exact}

-- "every config is in a listed stop state"
pub stopped_exact : (stops : List ℕ) (cs : List Config) → (stopped stops cs ≡ true) ↔ Stopped stops cs
unfolding stopped
stopped_exact stops cs = all_exact (λ (c : Config). any (eqb c.state) stops) (λ c. In c.state stops) cs (λ c. in_exact c.state stops)

-- "no state has just one"
pub just_exact : (cs : List Config) (c : Config) → (just_one cs c ≡ true) ↔ JustOne cs c
unfolding just_one
just_exact cs c =
    let here : Config → Bool = λ d. eqb d.state c.state in
    let d = all_exact _ (λ d. d.alternative ≡ c.alternative) (which here cs) (λ d. (eqb-true d.alternative c.alternative, eq-eqb d.alternative c.alternative)) in
    let p = every_passes here (λ d. d.alternative ≡ c.alternative) cs in (
      λ e. every_map _ _ cs (λ d f s. f (eq-eqb d.state c.state s)) (p.0 (d.0 e)),
      λ v. d.1 (p.1 (every_map _ _ cs (λ d f s. f (eqb-true d.state c.state s)) v)),
    )

not_false : (b : Bool) → b ≡ false → not b ≡ true
not_false b e = rw e

-- The verdict is document 01's.
pub verdict_exact : (stops : List ℕ) (cs : List Config) → (verdict stops cs ≡ true) ↔ VerdictYes stops cs
unfolding verdict
verdict_exact stops cs =
    let m = any many (groups cs) in
    let j = any (just_one cs) cs in
    let just = any_exact (just_one cs) (JustOne cs) cs (just_exact cs) in (
      λ e. ⊎_elim
          (λ h. inl ((stopped_exact stops cs).0 h))
          (λ h. let p = and_true m (not j) h in inr ((any_many cs).0 p.0, λ s. never_both (just.1 s) (not-true j p.1)))
          (or_true (stopped stops cs) (m && not j) e),
      ⊎_elim
          (λ v. true_or_left (stopped stops cs) (m && not j) ((stopped_exact stops cs).1 v))
          (λ v. or_right (stopped stops cs) (m && not j)
          (both_true m (not j) ((any_many cs).1 v.0) (not_false j (is_false j (λ e. v.1 (just.0 e)))))),
    )

-- ---- "Of a set without subsets"

pub verdict_empty : (stops : List ℕ) → verdict stops [] ≡ true
unfolding verdict stopped all
verdict_empty stops = refl

pub conflict_empty : all_subsets_conflict [] ≡ true
unfolding all_subsets_conflict groups firsts all
conflict_empty = refl

pub equal_empty : all_subsets_equal [] ≡ true
unfolding all_subsets_equal groups firsts all
equal_empty = refl

pub viable_empty : single_viable_alt [] ≡ none
unfolding single_viable_alt groups firsts agree
viable_empty = refl

pub unique_empty : unique_alt [] ≡ none
unfolding unique_alt agree
unique_empty = refl

pub groups_empty : groups [] ≡ []
unfolding groups firsts
groups_empty = refl

pub conflicting_empty : conflicting_alts [] ≡ []
unfolding conflicting_alts groups firsts which flat_map rising
conflicting_empty = refl
