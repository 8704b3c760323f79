-- Subsets with two or more alternatives: their union, and what they say of the configs. Nothing here has to be believed.
use Rattle.std.specs.Prelude.{◌≡◌, refl, ◌⊎◌, ◌↔◌, Bool, true, ℕ, ◌<◌, ◌≤◌, length}
use Rattle.std.proofs.Common.{sym, ◌∙◌, subst, inl, inr, ⊎_elim, arith, ltb-true, lt-ltb}
use mathlib.Core.List.{List, [], ◌∷◌, ◌++◌, flat_map}
use Rattle.sets.specs.Numbers.{two}
use Rattle.sets.specs.Config.{Config}
use Rattle.sets.specs.Lists.{any}
use Rattle.groups.specs.Lists.{Any, All, In, Rising, which}
use Rattle.groups.specs.Lists.Laws.{some_map, some_in, in_some, every_map, every_in, in_every, rising_unique, some_made, made_some, every_made, made_every}
use Rattle.groups.specs.Lists.Tests.{any_exact, all_exact, which_some, some_which}
use Rattle.groups.specs.Groups.{Group, alts_of, together, firsts, subset, groups}
use Rattle.groups.specs.Answers.{many, conflicting_alts, all_subsets_conflict}
use Rattle.groups.specs.Sentences.{Many, ConflictUnion, Conflict}
use Rattle.groups.proofs.Rising.{rising_rises, in_rising, alts_rise, Passes, in_passing}
use Rattle.groups.proofs.Firsts.{together_kind, some_firsts, firsts_some, every_firsts, firsts_every}
use Rattle.groups.proofs.Rules.{Beside, true_beside, subset_exact, subset_rises, subset_same}

pub many_exact : (g : Group) → (many g ≡ true) ↔ Many g
unfolding many
many_exact g = (ltb-true 1 (length g.alternatives), lt-ltb 1 (length g.alternatives))

-- ---- the union

in_append : (a : ℕ) (xs ys : List ℕ) → In a (xs ++ ys) ↔ (In a xs ⊎ In a ys)
in_append a [] ys = (inr, ⊎_elim (λ z. absurd z) (λ m. m))
in_append a (x ∷ xs) ys =
    let ih = in_append a xs ys in (
      ⊎_elim (λ e. inl (inl e)) (λ m. ⊎_elim (λ n. inl (inr n)) inr (ih.0 m)),
      ⊎_elim (⊎_elim inl (λ n. inr (ih.1 (inl n)))) (λ n. inr (ih.1 (inr n))),
    )

in_flat : (a : ℕ) (gs : List Group) → In a (flat_map (λ (g : Group). g.alternatives) gs) ↔ Any (λ g. In a g.alternatives) gs
unfolding flat_map
in_flat a [] = (λ m. m, λ m. m)
in_flat a (g ∷ gs) =
    let ih = in_flat a gs in
    let r = in_append a g.alternatives (flat_map (λ (g : Group). g.alternatives) gs) in (
      λ m. ⊎_elim inl (λ n. inr (ih.0 n)) (r.0 m),
      λ m. r.1 (⊎_elim inl (λ n. inr (ih.1 n)) m),
    )

-- `conflicting_alts` is the union of the groups with two or more, rising.
pub conflicting_union : (cs : List Config) → ConflictUnion (groups cs) (conflicting_alts cs)
unfolding conflicting_alts
conflicting_union cs =
    let gs = groups cs in
    let xs = flat_map (λ (g : Group). g.alternatives) (which many gs) in
    record {
      exact = λ a. (
        λ m. some_map _ _ gs (λ g p. ((many_exact g).0 p.0, p.1)) (which_some many _ gs ((in_flat a (which many gs)).0 ((in_rising a xs).0 m))),
        λ m. (in_rising a xs).1 ((in_flat a (which many gs)).1 (some_which many (λ g. In a g.alternatives) gs
            (some_map (λ g. Many g × In a g.alternatives) _ gs (λ g p. ((many_exact g).1 p.0, p.1)) m))),
      );
      rising = rising_rises xs;
    }

-- That leaves no choice.
pub union_unique : (gs : List Group) (xs ys : List ℕ) → ConflictUnion gs xs → ConflictUnion gs ys → xs ≡ ys
union_unique gs xs ys u v = rising_unique xs ys u.rising v.rising (λ a m. (v.exact a).1 ((u.exact a).0 m)) (λ a m. (u.exact a).1 ((v.exact a).0 m))

pub conflicting_unique : (cs : List Config) (xs : List ℕ) → ConflictUnion (groups cs) xs → xs ≡ conflicting_alts cs
conflicting_unique cs xs u = union_unique (groups cs) xs (conflicting_alts cs) u (conflicting_union cs)

-- ---- two or more alternatives are two that differ

two_of : (xs : List ℕ) → Rising xs → 2 ≤ length xs → (a b : ℕ) × In a xs × In b xs × (a < b)
two_of [] v h = absurd (omega arith)
two_of (x ∷ []) v h = absurd (omega arith)
two_of (x ∷ y ∷ xs) v h = (x, y, inl refl, inr (inl refl), v.0.0)

of_two : (xs : List ℕ) (a b : ℕ) → In a xs → In b xs → (a ≡ b → ⊥) → 2 ≤ length xs
of_two (x ∷ []) a b (inl e) (inl d) n = absurd (n (sym e ∙ d))
of_two (x ∷ []) a b (inl e) (inr k) n = absurd k
of_two (x ∷ []) a b (inr m) k n = absurd m
of_two (x ∷ y ∷ xs) a b m k n = omega arith
of_two [] a b m k n = elim m [ ]

-- another config of the same subset has another alternative
abbrev pub Rival : List Config → Config → Type 0
Rival cs c = Any (λ d. Beside c d × (d.alternative ≡ c.alternative → ⊥)) cs

pub rival_many : (cs : List Config) (c : Config) → In c cs → Rival cs c → Many (subset cs c)
rival_many cs c m r =
    let s = some_in (λ d. Beside c d × (d.alternative ≡ c.alternative → ⊥)) cs r in
    of_two (subset cs c).alternatives s.0.alternative c.alternative
    ((subset_exact cs c s.0.alternative).1 (in_some (λ d. Beside c d × (d.alternative ≡ s.0.alternative)) cs s.0 s.1 (s.2.0, refl)))
    ((subset_exact cs c c.alternative).1 (in_some (λ d. Beside c d × (d.alternative ≡ c.alternative)) cs c m ((refl, refl), refl)))
    s.2.1

pub many_rival : (cs : List Config) (c : Config) → Many (subset cs c) → Rival cs c
many_rival cs c h =
    let t = two_of (subset cs c).alternatives (subset_rises cs c) h in
    two t.0 c.alternative
    (λ e. some_map _ _ cs (λ d o. (o.0, λ k. omega (arith, t.4, o.1))) ((subset_exact cs c t.1).0 t.3))
    (λ n. some_map _ _ cs (λ d o. (o.0, λ k. n (sym o.1 ∙ k))) ((subset_exact cs c t.0).0 t.2))

-- configs of one subset have one subset
many_alike : (cs : List Config) (c d : Config) → together c d ≡ true → Many (subset cs d) → Many (subset cs c)
many_alike cs c d h m = rw (subset_same cs c d h) m

-- "some subset has two or more alternatives", of the configs and of the groups
pub conflict_groups : (cs : List Config) → Any Many (groups cs) ↔ Conflict cs
unfolding groups
conflict_groups cs =
    let P : Config → Type 0 = λ c. Many (subset cs c) in (
      λ m. some_map P (Rival cs) cs (many_rival cs) (firsts_some together P cs (made_some (subset cs) Many (firsts together cs) m)),
      λ m. some_made (subset cs) Many (firsts together cs)
          (some_firsts together P cs (many_alike cs) (let s = some_in (Rival cs) cs m in in_some P cs s.0 s.1 (rival_many cs s.0 s.1 s.2))),
    )

pub any_many : (cs : List Config) → (any many (groups cs) ≡ true) ↔ Conflict cs
any_many cs =
    let d = any_exact many Many (groups cs) many_exact in
    (λ e. (conflict_groups cs).0 (d.0 e), λ m. d.1 ((conflict_groups cs).1 m))

-- ---- every subset has two or more

-- `all_subsets_conflict` says yes exactly if every subset has two or more alternatives
pub conflict_exact : (cs : List Config) → (all_subsets_conflict cs ≡ true) ↔ All Many (groups cs)
unfolding all_subsets_conflict
conflict_exact cs = all_exact many Many (groups cs) many_exact

-- of the configs: each has a rival
pub conflict_configs : (cs : List Config) → (all_subsets_conflict cs ≡ true) ↔ All (Rival cs) cs
unfolding groups
conflict_configs cs =
    let P : Config → Type 0 = λ c. Many (subset cs c) in (
      λ e. every_map P (Rival cs) cs (many_rival cs)
          (firsts_every together together_kind P cs (λ c d h m. many_alike cs d c (together_kind.swap c d h) m)
          (made_every (subset cs) Many (firsts together cs) ((conflict_exact cs).0 e))),
      λ v. (conflict_exact cs).1 (every_made (subset cs) Many (firsts together cs)
          (every_firsts together P cs (in_every P cs (λ c m. rival_many cs c m (every_in (Rival cs) cs v c m))))),
    )

-- ---- the union, config by config

-- `conflicting_alts` are the alternatives of the configs whose subset has two or more.
pub conflicting_configs : (cs : List Config) → conflicting_alts cs ≡ alts_of (which (λ c. many (subset cs c)) cs)
unfolding groups
conflicting_configs cs =
    let t : Config → Bool = λ c. many (subset cs c) in
    let P : ℕ → Config → Type 0 = λ a c. Many (subset cs c) × In a (subset cs c).alternatives in
    let H : ℕ → Group → Type 0 = λ a g. Many g × In a g.alternatives in
    sym (conflicting_unique cs (alts_of (which t cs)) (record {
      exact = λ a. (
        λ m.
            let s = some_in (Passes t a) cs ((in_passing t a cs).0 m) in
            some_made (subset cs) (H a) (firsts together cs)
            (some_firsts together (P a) cs (λ c d h p. (many_alike cs c d h p.0, subst (In a) (sym (subset_same cs c d h)) p.1))
            (in_some (P a) cs s.0 s.1 (
              (many_exact (subset cs s.0)).0 s.2.0,
              (subset_exact cs s.0 a).1 (in_some (λ d. Beside s.0 d × (d.alternative ≡ a)) cs s.0 s.1 ((refl, refl), s.2.1)),
            ))),
        λ m.
            let s = some_in (P a) (firsts together cs) (made_some (subset cs) (H a) (firsts together cs) m) in
            (in_passing t a cs).1 (some_map (λ d. Beside s.0 d × (d.alternative ≡ a)) (Passes t a) cs
            (λ d o. ((many_exact (subset cs d)).1 (many_alike cs d s.0 (together_kind.swap s.0 d (true_beside s.0 d o.0)) s.2.0), o.1))
            ((subset_exact cs s.0 a).0 s.2.1)),
      );
      rising = alts_rise (which t cs);
    }))
