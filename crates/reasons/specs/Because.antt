-- From what the walks find to the reason. Nothing here has to be believed.
use Rattle.std.specs.Prelude.{◌≡◌, refl, Bool, true, false, ◌&&◌, not, List, ℕ, ◌<◌, eqb, Some, None}
use Rattle.std.proofs.Common.{sym, ap, ◌∙◌, arith}
use Rattle.std.proofs.Math.Path.{fun_ext}
use Rattle.words.specs.Bools.{bool_iff, never_both, is_false}
use Rattle.groups.specs.Config.{Config}
use Rattle.groups.specs.Layout.{config_at, config_count}
use Rattle.groups.specs.SetsLists.{any}
use Rattle.groups.specs.Words.{configs_in}
use Rattle.groups.specs.Lists.{In}
use Rattle.groups.specs.Lists.Laws.{in_some}
use Rattle.groups.specs.Lists.Tests.{any_exact}
use Rattle.groups.specs.Groups.{together, subset, groups}
use Rattle.groups.specs.Answers.{many, stopped, just_one}
use Rattle.groups.specs.Sentences.{Many, Conflict, JustOne}
use Rattle.groups.proofs.Rules.{Beside, subset_same}
use Rattle.groups.proofs.Conflicts.{many_exact, Rival, many_rival, rival_many, conflict_groups}
use Rattle.groups.proofs.Decided.{stopped_exact, just_exact}
use Rattle.groups.specs.Reason.{stop, none, one, clash, reason, FirstOf, Holds}
use Rattle.groups.proofs.ReasonLaws.{first_some, reason_is}
use Rattle.grouping.specs.Alike.{alike_of, alike_at}
use Rattle.grouping.specs.Ways.{same_places, same_states}
use Rattle.grouping.specs.Places.{place_some, some_place}
use Rattle.grouping.specs.Clash.{configs_of}
use Rattle.grouping.specs.Leads.{FirstAlike}
use Rattle.grouping.specs.Led.Laws.{kin}
use Rattle.grouping.specs.Marks.{picks}
use Rattle.grouping.specs.FirstMarked.{served, FirstPicked}
use Rattle.grouping.specs.declared.inner.traits.Alike.TheVariants.{State, Place}
use Rattle.grouping.specs.declared.inner.marks.Picks.TheVariants.{Rivals}
use Rattle.deciding.specs.Picked.{both_exact, place_exact, rival_exact, any_fails}
use Rattle.reasons.specs.First.{place_first, first_subset}

-- config i is one of the configs
here : (v : List ℕ) (n i : ℕ) → i < n → In (config_at v i) (configs_in v n)
here v n i h = place_some v (λ c. c ≡ config_at v i) n i h refl

-- a rival in its subset: the subset has two or more
clash_exact : (cs : List Config) (c : Config) → In c cs → any (λ d. alike_of Place c d && picks Rivals c d) cs ≡ many (subset cs c)
clash_exact cs c m =
    let e = any_exact (λ d. alike_of Place c d && picks Rivals c d) (λ d. Beside c d × (d.alternative ≡ c.alternative → ⊥)) cs
    (both_exact Place Rivals Beside (λ c d. d.alternative ≡ c.alternative → ⊥) place_exact rival_exact cs c) in
    bool_iff _ _ (λ t. (many_exact (subset cs c)).1 (rival_many cs c m (e.0 t))) (λ t. e.1 (many_rival cs c ((many_exact (subset cs c)).0 t)))

-- a rival in its state: the state has more than one
lone_exact : (cs : List Config) (c : Config) → any (λ d. alike_of State c d && picks Rivals c d) cs ≡ not (just_one cs c)
unfolding just_one
lone_exact cs c =
    ap (λ (s : Config → Bool). any (λ d. s d && not (eqb d.alternative c.alternative)) cs) (fun_ext (same_states c))
    ∙ any_fails (λ d. eqb d.state c.state) (λ d. eqb d.alternative c.alternative) cs

not_true : (b : Bool) → not b ≡ false → b ≡ true
not_true true e = refl
not_true false e = sym e

-- ---- the first subset with two or more alternatives

module _ (v : List ℕ) where
  served_many : (i : ℕ) → i < config_count v → served v Place Rivals i ≡ many (subset (configs_of v) (config_at v i))
  unfolding served
  served_many i h = clash_exact (configs_of v) (config_at v i) (here v (config_count v) i h)

  module _ (i : ℕ) (f : FirstPicked v Place Rivals true (Some i)) where
    not_before : (j : ℕ) → j < i → Many (subset (configs_of v) (config_at v j)) → ⊥
    not_before j l m = f.2 j l (served_many j (omega (arith, f.0)) ∙ (many_exact (subset (configs_of v) (config_at v j))).1 m)

    many_here : Many (subset (configs_of v) (config_at v i))
    many_here = (many_exact (subset (configs_of v) (config_at v i))).0 (sym (served_many i f.0) ∙ f.1)

    pub clash_first : FirstOf Many (subset (configs_of v) (config_at v i)) (groups (configs_of v))
    clash_first =
        first_subset (configs_of v) (config_at v i)
        (place_first (λ c. Many (subset (configs_of v) c)) v (config_count v) i f.0 not_before many_here)

    -- it is the first config of its subset
    pub clash_leads : FirstAlike (alike_at v Place) i i
    clash_leads = record {
      early = omega arith;
      same = (kin v Place).self i;
      first = λ j l. is_false (alike_at v Place j i) (λ e.
          let one : together (config_at v j) (config_at v i) ≡ true =
          sym (ap (λ (k : Config → Config → Bool). k (config_at v j) (config_at v i)) same_places) ∙ e in
          not_before j l (rw (subset_same (configs_of v) _ _ one) many_here));
    }

  pub clash_none : FirstPicked v Place Rivals true None → Conflict (configs_of v) → ⊥
  clash_none f c =
      let s = some_place v (Rival (configs_of v)) (config_count v) c in
      f s.0 s.1 (served_many s.0 s.1
      ∙ (many_exact (subset (configs_of v) (config_at v s.0))).1 (rival_many (configs_of v) (config_at v s.0) (here v (config_count v) s.0 s.1) s.2))

  -- ---- the first state with just one

  served_more : (i : ℕ) → served v State Rivals i ≡ not (just_one (configs_of v) (config_at v i))
  unfolding served
  served_more i = lone_exact (configs_of v) (config_at v i)

  alone : (i : ℕ) → served v State Rivals i ≡ false → JustOne (configs_of v) (config_at v i)
  alone i e = (just_exact (configs_of v) (config_at v i)).0 (not_true _ (sym (served_more i) ∙ e))

  lonely : (i : ℕ) → JustOne (configs_of v) (config_at v i) → served v State Rivals i ≡ false
  lonely i j = served_more i ∙ ap not ((just_exact (configs_of v) (config_at v i)).1 j)

  pub lone_first : (i : ℕ) → FirstPicked v State Rivals false (Some i) → FirstOf (JustOne (configs_of v)) (config_at v i) (configs_of v)
  lone_first i f =
      place_first (JustOne (configs_of v)) v (config_count v) i f.0 (λ j l p. f.2 j l (lonely j p)) (alone i f.1)

  pub lone_none : FirstPicked v State Rivals false None → (c : Config) → FirstOf (JustOne (configs_of v)) c (configs_of v) → ⊥
  lone_none f c h =
      let r = first_some (JustOne (configs_of v)) (configs_of v) c h in
      let s = some_place v (JustOne (configs_of v)) (config_count v) (in_some (JustOne (configs_of v)) (configs_of v) c r.0 r.1) in
      f s.0 s.1 (lonely s.0 s.2)

-- ---- the reason

module _ (stops : List ℕ) (cs : List Config) (go : stopped stops cs ≡ false) where
  on : Holds stops cs stop → ⊥
  on h = never_both ((stopped_exact stops cs).1 h) go

  pub because_none : (Conflict cs → ⊥) → none ≡ reason stops cs
  because_none n = reason_is stops cs none n on

  module _ (s k : ℕ) (xs : List ℕ) (first : Holds stops cs (clash s k xs)) where
    conflict : Holds stops cs none → ⊥
    conflict n =
        let r = first_some Many (groups cs) _ first in
        n ((conflict_groups cs).0 (in_some Many (groups cs) _ r.0 r.1))

    pub because_one : (c : Config) → FirstOf (JustOne cs) c cs → one c.state c.alternative ≡ reason stops cs
    because_one c h = reason_is stops cs (one c.state c.alternative) (c, h, refl, refl) (on, conflict)

    pub because_clash : ((c : Config) → FirstOf (JustOne cs) c cs → ⊥) → clash s k xs ≡ reason stops cs
    because_clash n = reason_is stops cs (clash s k xs) first (on, conflict, λ t a h. n h.0 h.1)
