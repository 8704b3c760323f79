-- One alternative: of every config, or the smallest of every subset. Nothing here has to be believed.
use Rattle.std.specs.Prelude.{◌≡◌, refl, ◌↔◌, true, false, List, [], ◌∷◌, map, ℕ, ◌<◌, ◌≤◌, eqb, get_or}
use Rattle.std.proofs.Common.{sym, ap, ◌∙◌, subst, inl, ⊎_elim, arith, eqb-true, eq-eqb}
use Rattle.sets.specs.Config.{Config}
use Rattle.sets.specs.Lists.{all}
use Rattle.sets.specs.Bools.{bool?}
use Rattle.groups.specs.Lists.{Any, All, In, Rising}
use Rattle.groups.specs.Lists.Laws.{some_map, some_in, in_some, every_in, in_every, every_map, every_made, made_every, some_made, made_some}
use Rattle.groups.specs.Lists.Tests.{all_exact}
use Rattle.groups.specs.Groups.{Group, groups}
use Rattle.groups.specs.Answers.{Answer, none, only, agree, smallest, single_viable_alt, unique_alt}
use Rattle.groups.specs.Sentences.{Smallest, Viable, Unique, Says}
use Rattle.groups.proofs.Rules.{Beside, subsets, group_of, config_of_lem}

-- ---- an answer

none_only {ℓ} : {X : Type ℓ} {a : ℕ} → none ≡ only a → X
none_only e = let z : ◌≡◌ {A = ℕ} 0 1 = cc in absurd (omega arith)

-- What is said leaves no choice.
pub says_unique : (P : ℕ → Type 0) (r s : Answer) → Says P r → Says P s → r ≡ s
says_unique P none none f g = refl
says_unique P none (only b) f g = (f b).1 ((g b).0 refl)
says_unique P (only a) s f g = sym ((g a).1 ((f a).0 refl))

-- Where there is no such alternative the answer is none.
pub says_none : (P : ℕ → Type 0) (r : Answer) → Says P r → ((a : ℕ) → P a → ⊥) → r ≡ none
says_none P none f n = refl
says_none P (only a) f n = absurd (n a ((f a).0 refl))

says_map : (P Q : ℕ → Type 0) (r : Answer) → ((a : ℕ) → P a ↔ Q a) → Says P r → Says Q r
says_map P Q r f s a = (λ e. (f a).0 ((s a).0 e), λ q. (s a).1 ((f a).1 q))

-- ---- the number that all are

module _ (x : ℕ) (xs : List ℕ) where
  pub agree_yes : all (eqb x) xs ≡ true → agree (x ∷ xs) ≡ only x
  unfolding agree
  agree_yes e = rw (e, agree)

  pub agree_no : all (eqb x) xs ≡ false → agree (x ∷ xs) ≡ none
  unfolding agree
  agree_no e = rw (e, agree)

abbrev Agreed : List ℕ → ℕ → Type 0
Agreed xs a = Any (λ x. x ≡ a) xs × All (λ x. x ≡ a) xs

agree_says : (xs : List ℕ) → Says (Agreed xs) (agree xs)
unfolding agree
agree_says [] a = (λ e. none_only e, λ p. absurd p.0)
agree_says (x ∷ xs) a =
    let d = all_exact (eqb x) (λ y. x ≡ y) xs (λ y. (eqb-true x y, eq-eqb x y)) in (
      λ e. bool? (all (eqb x) xs)
          (λ h.
          let k : x ≡ a = let o = sym (agree_yes x xs h) ∙ e in cc in
          (inl k, (k, every_map (λ y. x ≡ y) (λ y. y ≡ a) xs (λ y l. sym l ∙ k) (d.0 h))))
          (λ h. none_only (sym (agree_no x xs h) ∙ e)),
      λ p. agree_yes x xs (d.1 (every_map (λ y. y ≡ a) (λ y. x ≡ y) xs (λ y k. p.1.0 ∙ sym k) p.1.1)) ∙ ap only p.1.0,
    )

-- `unique_alt` says the alternative that every config has, if there is one.
pub unique_says : (cs : List Config) → Says (Unique cs) (unique_alt cs)
unfolding unique_alt
unique_says cs =
    let alt : Config → ℕ = λ c. c.alternative in
    says_map (Agreed (map alt cs)) (Unique cs) (agree (map alt cs))
    (λ a. (
      λ p. (made_some alt (λ x. x ≡ a) cs p.0, made_every alt (λ x. x ≡ a) cs p.1),
      λ p. (some_made alt (λ x. x ≡ a) cs p.0, every_made alt (λ x. x ≡ a) cs p.1),
    ))
    (agree_says (map alt cs))

-- ---- the smallest alternative

-- there are alternatives, and they rise
abbrev Full : Group → Type 0
Full g = ((a : ℕ) × In a g.alternatives) × Rising g.alternatives

groups_full : (cs : List Config) → All Full (groups cs)
groups_full cs =
    in_every Full (groups cs) λ g m.
    let c = config_of_lem cs g m in
    ((c.0.alternative, (c.2 c.0.alternative).1 (in_some _ cs c.0 c.1 ((refl, refl), refl))), every_in _ (groups cs) (subsets cs).rising g m)

first_smallest : (xs : List ℕ) (a : ℕ) → (b : ℕ) × In b xs → Rising xs → (get_or xs 0 0 ≡ a) ↔ (In a xs × All (λ b. a ≤ b) xs)
first_smallest [] a n v = absurd n.1
first_smallest (x ∷ xs) a n v = (
  λ e. (inl e, (omega arith, every_map (λ y. x < y) (λ y. a ≤ y) xs (λ y k. omega arith) v.0)),
  λ p. ⊎_elim (λ e. e) (λ m. let h : x < a = every_in (λ y. x < y) xs v.0 a m in absurd (omega (arith, p.1.0))) p.0,
)

smallest_exact : (g : Group) (a : ℕ) → Full g → (smallest g ≡ a) ↔ Smallest a g
unfolding smallest
smallest_exact g a f = first_smallest g.alternatives a f.0 f.1

-- `single_viable_alt` says the alternative that is the smallest of every subset, if there is one.
pub viable_says : (cs : List Config) → Says (Viable (groups cs)) (single_viable_alt cs)
unfolding single_viable_alt
viable_says cs =
    let gs = groups cs in
    let small : (a : ℕ) (g : Group) → In g gs → (smallest g ≡ a) ↔ Smallest a g = λ a g m. smallest_exact g a (every_in Full gs (groups_full cs) g m) in
    says_map (Agreed (map smallest gs)) (Viable gs) (agree (map smallest gs))
    (λ a. (
      λ p. (
        let s = some_in (λ g. smallest g ≡ a) gs (made_some smallest (λ x. x ≡ a) gs p.0) in in_some (Smallest a) gs s.0 s.1 ((small a s.0 s.1).0 s.2),
        in_every (Smallest a) gs (λ g m. (small a g m).0 (every_in (λ g. smallest g ≡ a) gs (made_every smallest (λ x. x ≡ a) gs p.1) g m)),
      ),
      λ p. (
        some_made smallest (λ x. x ≡ a) gs (let s = some_in (Smallest a) gs p.0 in in_some (λ g. smallest g ≡ a) gs s.0 s.1 ((small a s.0 s.1).1 s.2)),
        every_made smallest (λ x. x ≡ a) gs (in_every (λ g. smallest g ≡ a) gs (λ g m. (small a g m).1 (every_in (Smallest a) gs p.1 g m))),
      ),
    ))
    (agree_says (map smallest gs))

-- ---- the same of the configs: a is the smallest alternative of the set, and each config has one beside it that has a

pub record Served (cs : List Config) (a : ℕ) : Type 0 where
  pub some : Any (λ c. c.alternative ≡ a) cs
  pub least : All (λ c. a ≤ c.alternative) cs
  pub each : All (λ c. Any (λ d. Beside c d × (d.alternative ≡ a)) cs) cs

viable_served : (cs : List Config) (a : ℕ) → Viable (groups cs) a ↔ Served cs a
viable_served cs a =
    let gs = groups cs in (
      λ v.
          let each : (c : Config) → In c cs → Any (λ d. Beside c d × (d.alternative ≡ a)) cs =
          λ c m. let g = group_of cs c m in (g.2 a).0 (every_in (Smallest a) gs v.1 g.0 g.1).0 in
          let s = some_in (Smallest a) gs v.0 in
          let c = config_of_lem cs s.0 s.1 in
          record {
            some = some_map _ _ cs (λ d o. o.1) ((c.2 a).0 s.2.0);
            least = in_every _ cs (λ d m.
                let g = group_of cs d m in
                every_in (λ b. a ≤ b) g.0.alternatives (every_in (Smallest a) gs v.1 g.0 g.1).1 d.alternative
                ((g.2 d.alternative).1 (in_some _ cs d m ((refl, refl), refl))));
            each = in_every _ cs each;
          },
      λ v.
          let small : (g : Group) → In g gs → Smallest a g =
          λ g m.
          let c = config_of_lem cs g m in (
            (c.2 a).1 (every_in _ cs v.each c.0 c.1),
            in_every (λ b. a ≤ b) g.alternatives (λ b n.
                let d = some_in _ cs ((c.2 b).0 n) in
                subst (λ (x : ℕ). a ≤ x) d.2.1 (every_in (λ c. a ≤ c.alternative) cs v.least d.0 d.1)),
          ) in
          let s = some_in _ cs v.some in
          let g = group_of cs s.0 s.1 in
          (in_some (Smallest a) gs g.0 g.1 (small g.0 g.1), in_every (Smallest a) gs small),
    )

pub viable_configs : (cs : List Config) → Says (Served cs) (single_viable_alt cs)
viable_configs cs = says_map (Viable (groups cs)) (Served cs) (single_viable_alt cs) (viable_served cs) (viable_says cs)
