-- Where two lists of configs differ in their context numbers only, as the same configs in two stores do, groups and the reason agree up to the
-- contexts and all other answers are equal. Nothing here has to be believed.
use Rattle.std.specs.Prelude.{◌≡◌, ◌↔◌, Bool, true, false, ℕ, suc, length}
use Rattle.std.proofs.Math.Path.{refl, ap, ap₂, subst₂}
use Rattle.std.proofs.Common.{sym, ◌∙◌, inl, inr, ⊎_elim, eqb-true, eq-eqb}
use Rattle.std.proofs.Math.Bool.{◌&&◌, ◌||◌, not}
use mathlib.Core.List.{List, [], ◌∷◌, map, flat_map}
use Rattle.std.proofs.Math.Dec.{eqb, ltb}
use Rattle.sets.specs.Config.{Config}
use Rattle.sets.specs.Lists.{any, all}
use Rattle.sets.specs.Bools.{bool?, bool_iff}
use Rattle.groups.specs.Lists.{Any, All, which}
use Rattle.groups.specs.Lists.Tests.{which_yes, which_no}
use Rattle.groups.specs.Groups.{Group, rising, alts_of, together, firsts, subset, groups}
use Rattle.groups.specs.Answers.{many, conflicting_alts, all_subsets_conflict, within, all_subsets_equal, agree, single_viable_alt, unique_alt, stopped, just_one, verdict}
use Rattle.groups.specs.Sentences.{Smallest, Viable}
use Rattle.groups.specs.Reason as Reasons
use Rattle.groups.specs.Reason.{Reason, stop, one, clash, pick, reason}
use Rattle.groups.proofs.ReasonLaws.{pick_yes, pick_no}
use Rattle.groups.proofs.Firsts.{other}
use Rattle.groups.proofs.Single.{says_unique, viable_says}

-- as many, and R holds between those that correspond
pub data Each {A B : Type 0} (R : A → B → Type 0) : List A → List B → Type 0 where
  none : Each R [] []
  more : {x : A} {y : B} {xs : List A} {ys : List B} → R x y → Each R xs ys → Each R (x ∷ xs) (y ∷ ys)

-- the same config, and the same group, in another context
abbrev pub moved : Config → ℕ → Config
moved c k = record { state = c.state; alternative = c.alternative; context = k; semantic = c.semantic; reach = c.reach; provenance = c.provenance }

abbrev pub moved_group : Group → ℕ → Group
moved_group g k = record { state = g.state; context = k; alternatives = g.alternatives }

-- by a relation between contexts: say, "stand for the same stacks"
pub data Twin (M : ℕ → ℕ → Type 0) : Config → Config → Type 0 where
  twin : (c : Config) (k : ℕ) → M c.context k → Twin M c (moved c k)

pub data TwinGroup (M : ℕ → ℕ → Type 0) : Group → Group → Type 0 where
  twin_group : (g : Group) (k : ℕ) → M g.context k → TwinGroup M g (moved_group g k)

pub data TwinReason (M : ℕ → ℕ → Type 0) : Reason → Reason → Type 0 where
  twin_stop : TwinReason M stop stop
  twin_none : TwinReason M Reasons.none Reasons.none
  twin_one : (s a : ℕ) → TwinReason M (one s a) (one s a)
  twin_clash : (s : ℕ) (xs : List ℕ) {k l : ℕ} → M k l → TwinReason M (clash s k xs) (clash s l xs)

-- which is one to one
abbrev pub OneToOne : (ℕ → ℕ → Type 0) → Type 0
OneToOne M = (k l m n : ℕ) → M k m → M l n → (k ≡ l) ↔ (m ≡ n)

-- ---- lists that correspond

module _ {A B : Type 0} {R : A → B → Type 0} where
  each_made : {C D : Type 0} (S : C → D → Type 0) (f : A → C) (g : B → D) → ((x : A) (y : B) → R x y → S (f x) (g y))
      → {xs : List A} {ys : List B} → Each R xs ys → Each S (map f xs) (map g ys)
  each_made S f g h none = none
  each_made S f g h (more r l) = more (h _ _ r) (each_made S f g h l)

  each_map : {C : Type 0} (f : A → C) (g : B → C) → ((x : A) (y : B) → R x y → f x ≡ g y) → {xs : List A} {ys : List B} → Each R xs ys → map f xs ≡ map g ys
  each_map f g h none = refl
  each_map f g h (more r l) = ap₂ ◌∷◌ (h _ _ r) (each_map f g h l)

  each_flat : {C : Type 0} (f : A → List C) (g : B → List C) → ((x : A) (y : B) → R x y → f x ≡ g y) → {xs : List A} {ys : List B} → Each R xs ys → flat_map f xs ≡ flat_map g ys
  unfolding flat_map
  each_flat f g h none = refl
  each_flat f g h (more {xs = xs} r l) = rw (h _ _ r, each_flat f g h l)

  each_some : (P : A → Type 0) (Q : B → Type 0) → ((x : A) (y : B) → R x y → P x ↔ Q y) → {xs : List A} {ys : List B} → Each R xs ys → Any P xs ↔ Any Q ys
  each_some P Q h none = (λ m. m, λ m. m)
  each_some P Q h (more r l) =
      let ih = each_some P Q h l in
      (⊎_elim (λ p. inl ((h _ _ r).0 p)) (λ m. inr (ih.0 m)), ⊎_elim (λ p. inl ((h _ _ r).1 p)) (λ m. inr (ih.1 m)))

  each_every : (P : A → Type 0) (Q : B → Type 0) → ((x : A) (y : B) → R x y → P x ↔ Q y) → {xs : List A} {ys : List B} → Each R xs ys → All P xs ↔ All Q ys
  each_every P Q h none = (λ v. v, λ v. v)
  each_every P Q h (more r l) =
      let ih = each_every P Q h l in
      (λ v. ((h _ _ r).0 v.0, ih.0 v.1), λ v. ((h _ _ r).1 v.0, ih.1 v.1))

  pub each_length : {xs : List A} {ys : List B} → Each R xs ys → length xs ≡ length ys
  each_length none = refl
  each_length (more r l) = ap suc (each_length l)

  module _ (t : A → Bool) (u : B → Bool) (same : (x : A) (y : B) → R x y → t x ≡ u y) where
    each_any : {xs : List A} {ys : List B} → Each R xs ys → any t xs ≡ any u ys
    unfolding any
    each_any none = refl
    each_any (more r l) = ap₂ ◌||◌ (same _ _ r) (each_any l)

    each_all : {xs : List A} {ys : List B} → Each R xs ys → all t xs ≡ all u ys
    unfolding all
    each_all none = refl
    each_all (more r l) = ap₂ ◌&&◌ (same _ _ r) (each_all l)

    each_which : {xs : List A} {ys : List B} → Each R xs ys → Each R (which t xs) (which u ys)
    unfolding which
    each_which none = none
    each_which (more {x} {y} {xs} {ys} r l) =
        bool? (t x)
        (λ e. subst₂ (Each R) (sym (which_yes t x xs e)) (sym (which_yes u y ys (sym (same x y r) ∙ e))) (more r (each_which l)))
        (λ e. subst₂ (Each R) (sym (which_no t x xs e)) (sym (which_no u y ys (sym (same x y r) ∙ e))) (each_which l))

    -- what is said of the first that passes, and else
    each_pick : {X Y : Type 0} (S : X → Y → Type 0) (f : A → X) (g : B → Y) (x : X) (y : Y) → ((a : A) (b : B) → R a b → S (f a) (g b)) → S x y
        → {xs : List A} {ys : List B} → Each R xs ys → S (pick t xs f x) (pick u ys g y)
    unfolding pick
    each_pick S f g x y h o none = o
    each_pick S f g x y h o (more {x = a} {y = b} {xs = xs} {ys = ys} r l) =
        bool? (t a)
        (λ e. subst₂ S (sym (pick_yes t f x a xs e)) (sym (pick_yes u g y b ys (sym (same a b r) ∙ e))) (h a b r))
        (λ e. subst₂ S (sym (pick_no t f x a xs e)) (sym (pick_no u g y b ys (sym (same a b r) ∙ e))) (each_pick S f g x y h o l))

-- ---- configs that correspond

module _ (M : ℕ → ℕ → Type 0) (fair : OneToOne M) where
  same_context : (k l m n : ℕ) → M k m → M l n → eqb k l ≡ eqb m n
  same_context k l m n p q =
      let f = fair k l m n p q in
      bool_iff (eqb k l) (eqb m n) (λ e. eq-eqb m n (f.0 (eqb-true k l e))) (λ e. eq-eqb k l (f.1 (eqb-true m n e)))

  same_together : (c d x y : Config) → Twin M c d → Twin M x y → together c x ≡ together d y
  unfolding together
  same_together c d x y (twin _ k p) (twin _ l q) = ap (λ (b : Bool). eqb c.state x.state && b) (same_context c.context x.context k l p q)

  same_alt : (c d : Config) → Twin M c d → c.alternative ≡ d.alternative
  same_alt c d (twin _ k p) = refl

  same_state : (c d : Config) → Twin M c d → c.state ≡ d.state
  same_state c d (twin _ k p) = refl

  same_alts : {cs ds : List Config} → Each (Twin M) cs ds → alts_of cs ≡ alts_of ds
  unfolding alts_of
  same_alts l = ap rising (each_map _ _ same_alt l)

  twin_firsts : {cs ds : List Config} → Each (Twin M) cs ds → Each (Twin M) (firsts together cs) (firsts together ds)
  unfolding firsts
  twin_firsts none = none
  twin_firsts (more {x = c} {y = d} p l) = more p (each_which (other together c) (other together d) (λ x y q. ap not (same_together c d x y p q)) (twin_firsts l))

  module _ {cs ds : List Config} (l : Each (Twin M) cs ds) where
    same_subset : (c d : Config) → Twin M c d → TwinGroup M (subset cs c) (subset ds d)
    unfolding subset
    same_subset c d (twin _ k p) =
        rw (← same_alts (each_which (together c) (together (moved c k)) (λ x y q. same_together c (moved c k) x y (twin c k p) q) l)) (twin_group (subset cs c) k p)

    -- Groups agree up to the contexts.
    pub twin_groups : Each (TwinGroup M) (groups cs) (groups ds)
    unfolding groups
    twin_groups = each_made (TwinGroup M) (subset cs) (subset ds) same_subset (twin_firsts l)

    alts_same : (g h : Group) → TwinGroup M g h → g.alternatives ≡ h.alternatives
    alts_same g h (twin_group _ k p) = refl

    many_same : (g h : Group) → TwinGroup M g h → many g ≡ many h
    unfolding many
    many_same g h p = ap (λ (xs : List ℕ). ltb 1 (length xs)) (alts_same g h p)

    within_same : (g h : Group) → TwinGroup M g h → (x y : Group) → TwinGroup M x y → within g x ≡ within h y
    unfolding within
    within_same g h (twin_group _ k p) x y (twin_group _ m q) = refl

    just_same : (c d : Config) → Twin M c d → just_one cs c ≡ just_one ds d
    unfolding just_one
    just_same c d (twin _ k p) =
        each_all _ _ (λ x y q. ap (λ (a : ℕ). eqb a c.alternative) (same_alt x y q))
        (each_which _ _ (λ x y q. ap (λ (s : ℕ). eqb s c.state) (same_state x y q)) l)

    -- All other answers are equal.
    pub twin_count : length (groups cs) ≡ length (groups ds)
    twin_count = each_length twin_groups

    pub twin_conflicting : conflicting_alts cs ≡ conflicting_alts ds
    unfolding conflicting_alts
    twin_conflicting = ap rising (each_flat _ _ alts_same (each_which many many many_same twin_groups))

    pub twin_conflict : all_subsets_conflict cs ≡ all_subsets_conflict ds
    unfolding all_subsets_conflict
    twin_conflict = each_all many many many_same twin_groups

    pub twin_equal : all_subsets_equal cs ≡ all_subsets_equal ds
    unfolding all_subsets_equal
    twin_equal = each_all _ _ (λ g h p. each_all (within g) (within h) (within_same g h p) twin_groups) twin_groups

    same_smallest : (a : ℕ) (g h : Group) → TwinGroup M g h → Smallest a g ↔ Smallest a h
    same_smallest a g h (twin_group _ k p) = (λ q. q, λ q. q)

    pub twin_viable : single_viable_alt cs ≡ single_viable_alt ds
    twin_viable =
        says_unique (Viable (groups ds)) (single_viable_alt cs) (single_viable_alt ds)
        (λ a.
        let i = each_some (Smallest a) (Smallest a) (same_smallest a) twin_groups in
        let j = each_every (Smallest a) (Smallest a) (same_smallest a) twin_groups in
        let v = viable_says cs a in
        (λ e. let q = v.0 e in (i.0 q.0, j.0 q.1), λ q. v.1 (i.1 q.0, j.1 q.1)))
        (viable_says ds)

    pub twin_unique : unique_alt cs ≡ unique_alt ds
    unfolding unique_alt
    twin_unique = ap agree (each_map _ _ same_alt l)

    stopped_same : (stops : List ℕ) → stopped stops cs ≡ stopped stops ds
    unfolding stopped
    stopped_same stops = each_all _ _ (λ c d p. ap (λ (s : ℕ). any (eqb s) stops) (same_state c d p)) l

    pub twin_verdict : (stops : List ℕ) → verdict stops cs ≡ verdict stops ds
    unfolding verdict
    twin_verdict stops =
        ap₂ ◌||◌ (stopped_same stops)
        (ap₂ (λ (m j : Bool). m && not j) (each_any many many many_same twin_groups) (each_any (just_one cs) (just_one ds) just_same l))

    -- ---- the reason

    one_same : (c d : Config) → Twin M c d → TwinReason M (one c.state c.alternative) (one d.state d.alternative)
    one_same c d (twin _ k p) = twin_one c.state c.alternative

    clash_same : (g h : Group) → TwinGroup M g h → TwinReason M (clash g.state g.context g.alternatives) (clash h.state h.context h.alternatives)
    clash_same g h (twin_group _ k p) = twin_clash g.state g.alternatives p

    unless_stopped : (b b' : Bool) → b ≡ b' → {r r' : Reason} → TwinReason M r r'
        → TwinReason M (elim b [ true ↦ stop | false ↦ r ]) (elim b' [ true ↦ stop | false ↦ r' ])
    unless_stopped true b' e q = rw (← e) twin_stop
    unless_stopped false b' e q = rw (← e) q

    -- The reasons agree up to the context of a clash.
    pub twin_reason : (stops : List ℕ) → TwinReason M (reason stops cs) (reason stops ds)
    unfolding reason
    twin_reason stops =
        unless_stopped (stopped stops cs) (stopped stops ds) (stopped_same stops)
        (each_pick many many many_same (TwinReason M) _ _ Reasons.none Reasons.none
        (λ g h p. each_pick (just_one cs) (just_one ds) just_same (TwinReason M) _ _ _ _ one_same (clash_same g h p) l)
        twin_none twin_groups)
