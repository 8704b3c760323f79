-- Document 01's sentences on subsets hold of `groups`, and leave no choice. Nothing here has to be believed.
use Rattle.std.specs.Prelude.{◌≡◌, refl, ◌↔◌, Bool, true, false, List, ℕ}
use Rattle.std.proofs.Common.{sym, ap, ◌∙◌}
use Rattle.sets.specs.Config.{Config}
use Rattle.sets.specs.Bools.{never_both}
use Rattle.groups.specs.Lists.{Any, In, Before, Rising, which}
use Rattle.groups.specs.Lists.Laws.{some_map, some_in, in_some, every_in, every_of, pairwise_map, pairwise_both, before_map, before_asym}
use Rattle.groups.specs.Lists.Laws.{sorted_unique, rising_unique, some_made, made_some, every_made, pairwise_made}
use Rattle.groups.specs.Groups.{Group, alts_of, together, firsts, subset, groups}
use Rattle.groups.specs.Sentences.{AtPlace, For, Subsets}
use Rattle.groups.proofs.Rising.{Passes, alts_rise, in_passing}
use Rattle.groups.proofs.Firsts.{together_kind, together_true, true_together, some_firsts, firsts_some, same_kind, firsts_once, firsts_order}

-- the config is one of the group's
abbrev Of : Group → Config → Type 0
Of g c = AtPlace g.state g.context c

-- ---- they hold

-- d has the state and the context of c
abbrev pub Beside : Config → Config → Type 0
Beside c d = AtPlace c.state c.context d

pub beside_true : (c d : Config) → together c d ≡ true → Beside c d
beside_true c d e = let h = together_true c d e in (sym h.0, sym h.1)

pub true_beside : (c d : Config) → Beside c d → together c d ≡ true
true_beside c d h = true_together c d (sym h.0, sym h.1)

-- the alternatives of the subset that c falls into
pub subset_exact : (cs : List Config) (c : Config) (a : ℕ) → In a (subset cs c).alternatives ↔ Any (λ d. Beside c d × (d.alternative ≡ a)) cs
unfolding subset
subset_exact cs c a =
    let r = in_passing (together c) a cs in (
      λ m. some_map (Passes (together c) a) _ cs (λ d o. (beside_true c d o.0, o.1)) (r.0 m),
      λ m. r.1 (some_map _ (Passes (together c) a) cs (λ d o. (true_beside c d o.0, o.1)) m),
    )

pub subset_rises : (cs : List Config) (c : Config) → Rising (subset cs c).alternatives
unfolding subset
subset_rises cs c = alts_rise (which (together c) cs)

-- of configs that are together it is one
pub subset_same : (cs : List Config) (c d : Config) → together c d ≡ true → (subset cs c).alternatives ≡ (subset cs d).alternatives
unfolding subset
subset_same cs c d h = ap (λ (t : Config → Bool). alts_of (which t cs)) (same_kind together together_kind c d h)

pub subsets : (cs : List Config) → Subsets cs (groups cs)
unfolding groups subset
subsets cs =
    let fs = firsts together cs in
    record {
      each = λ s k. (
        λ m. firsts_some together (AtPlace s k) cs (made_some (subset cs) (For s k) fs m),
        λ m. some_made (subset cs) (For s k) fs
            (some_firsts together (AtPlace s k) cs (λ c d h p. let q = together_true c d h in (q.0 ∙ p.0, q.1 ∙ p.1)) m),
      );
      once = pairwise_made (subset cs) (λ g h. For g.state g.context h → ⊥) fs
          (pairwise_map (λ c d. together c d ≡ false) (λ c d. Beside c d → ⊥) fs (λ c d n e. never_both (true_beside c d e) n) (firsts_once together cs));
      exact = every_made (subset cs) (λ g. (a : ℕ) → In a g.alternatives ↔ Any (λ c. Of g c × (c.alternative ≡ a)) cs) fs (every_of _ fs (subset_exact cs));
      rising = every_made (subset cs) (λ g. Rising g.alternatives) fs (every_of _ fs (subset_rises cs));
      order = pairwise_made (subset cs) (λ g h. Before (Of g) (Of h) cs) fs
          (pairwise_map (λ c d. Before (λ e. together c e ≡ true) (λ e. together d e ≡ true) cs) (λ c d. Before (Beside c) (Beside d) cs) fs
          (λ c d. before_map _ _ _ _ cs (beside_true c) (true_beside d)) (firsts_order together together_kind cs));
    }

-- the group of a config, with the alternatives that the configs beside it have
pub group_of : (cs : List Config) (c : Config) → In c cs
    → (g : Group) × In g (groups cs) × ((a : ℕ) → In a g.alternatives ↔ Any (λ d. Beside c d × (d.alternative ≡ a)) cs)
group_of cs c m =
    let s = some_in (For c.state c.context) (groups cs) (((subsets cs).each c.state c.context).1 (in_some (Beside c) cs c m (refl, refl))) in
    let x = every_in _ (groups cs) (subsets cs).exact s.0 s.1 in (
      s.0,
      s.1,
      λ a. (
        λ n. some_map _ _ cs (λ d o. ((o.0.0 ∙ s.2.0, o.0.1 ∙ s.2.1), o.1)) ((x a).0 n),
        λ n. (x a).1 (some_map _ _ cs (λ d o. ((o.0.0 ∙ sym s.2.0, o.0.1 ∙ sym s.2.1), o.1)) n),
      ),
    )

-- a config of a group
pub config_of_lem : (cs : List Config) (g : Group) → In g (groups cs)
    → (c : Config) × In c cs × ((a : ℕ) → In a g.alternatives ↔ Any (λ d. Beside c d × (d.alternative ≡ a)) cs)
config_of_lem cs g m =
    let s = some_in (Of g) cs (((subsets cs).each g.state g.context).0 (in_some (For g.state g.context) (groups cs) g m (refl, refl))) in
    let x = every_in _ (groups cs) (subsets cs).exact g m in (
      s.0,
      s.1,
      λ a. (
        λ n. some_map _ _ cs (λ d o. ((o.0.0 ∙ sym s.2.0, o.0.1 ∙ sym s.2.1), o.1)) ((x a).0 n),
        λ n. (x a).1 (some_map _ _ cs (λ d o. ((o.0.0 ∙ s.2.0, o.0.1 ∙ s.2.1), o.1)) n),
      ),
    )

-- ---- they leave no choice

-- one subset stands before another
abbrev Ahead : List Config → Group → Group → Type 0
Ahead cs g h = (For g.state g.context h → ⊥) × Before (Of g) (Of h) cs

ahead_asym : (cs : List Config) (g h : Group) → Ahead cs g h → Ahead cs h g → ⊥
ahead_asym cs g h p q = before_asym (Of g) (Of h) cs (λ c u v. p.0 (sym v.0 ∙ u.0, sym v.1 ∙ u.1)) p.1 q.1

-- a group of one list is in the other
carried : (cs : List Config) (gs hs : List Group) → Subsets cs gs → Subsets cs hs → (g : Group) → In g gs → In g hs
carried cs gs hs G H g m =
    let s = some_in (For g.state g.context) hs ((H.each _ _).1 ((G.each _ _).0 (in_some (For g.state g.context) gs g m (refl, refl)))) in
    let h : Group = s.0 in
    let x = every_in _ gs G.exact g m in
    let y = every_in _ hs H.exact h s.1 in
    let e : h.alternatives ≡ g.alternatives =
    rising_unique h.alternatives g.alternatives (every_in _ hs H.rising h s.1) (every_in _ gs G.rising g m)
    (λ a n. (x a).1 (some_map _ _ cs (λ c o. ((o.0.0 ∙ s.2.0, o.0.1 ∙ s.2.1), o.1)) ((y a).0 n)))
    (λ a n. (y a).1 (some_map _ _ cs (λ c o. ((o.0.0 ∙ sym s.2.0, o.0.1 ∙ sym s.2.1), o.1)) ((x a).0 n))) in
    in_some (λ x. x ≡ g) hs h s.1 (λ i. record { state = s.2.0 i; context = s.2.1 i; alternatives = e i })

-- Any two lists of groups that satisfy the sentences are equal.
pub subsets_unique : (cs : List Config) (gs hs : List Group) → Subsets cs gs → Subsets cs hs → gs ≡ hs
subsets_unique cs gs hs G H =
    sorted_unique (Ahead cs) (ahead_asym cs) gs hs
    (pairwise_both _ _ (Ahead cs) gs (λ g h p q. (p, q)) G.once G.order)
    (pairwise_both _ _ (Ahead cs) hs (λ g h p q. (p, q)) H.once H.order)
    (carried cs gs hs G H)
    (carried cs hs gs H G)

-- A list of groups that satisfies the sentences is `groups cs`.
pub groups_unique : (cs : List Config) (gs : List Group) → Subsets cs gs → gs ≡ groups cs
groups_unique cs gs G = subsets_unique cs gs (groups cs) G (subsets cs)
