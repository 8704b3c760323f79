-- Some subset has two or more alternatives exactly if a config has another alternative than the first of its subset. Nothing here has to be believed.
use Rattle.std.specs.Prelude.{◌≡◌, true, false, List, ℕ, ◌<◌, ◌+◌, get_or}
use Rattle.std.proofs.Common.{sym, ap, ◌∙◌, arith}
use Rattle.groups.specs.Config.{Config}
use Rattle.groups.specs.Layout.{config_at, config_count}
use Rattle.groups.specs.SetsLists.{any}
use Rattle.words.specs.Bools.{is_false}
use Rattle.groups.specs.Words.{configs_in}
use Rattle.groups.specs.Lists.{Any}
use Rattle.groups.specs.Groups.{groups}
use Rattle.groups.specs.Answers.{many}
use Rattle.groups.specs.Sentences.{AtPlace}
use Rattle.groups.proofs.Conflicts.{any_many}
use Rattle.grouping.specs.Alike.{alike_at}
use Rattle.grouping.specs.Ways.{place_true, true_place}
use Rattle.grouping.specs.Places.{some_place, place_some}
use Rattle.grouping.specs.Leads.{leads_one}
use Rattle.grouping.specs.Led.{leaders_at, Led}
use Rattle.grouping.specs.Led.Laws.{kin}
use Rattle.grouping.specs.declared.inner.traits.Alike.TheVariants.{Place}

abbrev pub alt_at : List ℕ → ℕ → ℕ
alt_at v i = (config_at v i).alternative

-- config i has the alternative of the first of its subset
abbrev pub Agrees : List ℕ → List ℕ → ℕ → Type 0
Agrees v z i = alt_at v i ≡ alt_at v (get_or z (leaders_at + i) 0)

-- all configs of the words
abbrev pub configs_of : List ℕ → List Config
configs_of v = configs_in v (config_count v)

module _ {v z : List ℕ} (x : Led v Place (config_count v) z) where
  pub leader_less : (i : ℕ) → i < config_count v → get_or z (leaders_at + i) 0 < config_count v
  leader_less i h = omega (arith, (x.leads i h).early)

  pub clash_found : (i : ℕ) → i < config_count v → (Agrees v z i → ⊥) → any many (groups (configs_of v)) ≡ true
  clash_found i h d =
      let l : ℕ = get_or z (leaders_at + i) 0 in
      (any_many (configs_of v)).1 (place_some v (λ c. Any (λ d. AtPlace c.state c.context d × (d.alternative ≡ c.alternative → ⊥)) (configs_of v)) (config_count v) l (leader_less i h)
      (place_some v (λ e. AtPlace (config_at v l).state (config_at v l).context e × (e.alternative ≡ alt_at v l → ⊥)) (config_count v) i h
      (place_true (config_at v l) (config_at v i) (x.leads i h).same, d)))

  pub clash_none : ((i : ℕ) → i < config_count v → Agrees v z i) → any many (groups (configs_of v)) ≡ false
  clash_none f =
      is_false (any many (groups (configs_of v))) (λ e.
      let s = some_place v _ (config_count v) ((any_many (configs_of v)).0 e) in
      let r = some_place v (λ d. AtPlace (config_at v s.0).state (config_at v s.0).context d × (d.alternative ≡ alt_at v s.0 → ⊥)) (config_count v) s.2 in
      let one = leads_one (alike_at v Place) (kin v Place) s.0 r.0 _ _ (true_place (config_at v s.0) (config_at v r.0) r.2.0) (x.leads s.0 s.1) (x.leads r.0 r.1) in
      r.2.1 (f r.0 r.1 ∙ ap (alt_at v) (sym one) ∙ sym (f s.0 s.1)))
