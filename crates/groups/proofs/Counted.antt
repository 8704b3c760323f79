-- All subsets are equal exactly if the set has as many triples of state, context and alternative as it has subsets times alternatives.
-- Nothing here has to be believed.
use Rattle.std.specs.Prelude.{◌≡◌, refl, ◌↔◌, Bool, true, false, ◌&&◌, List, [], ◌∷◌, map, eqb}
use Rattle.std.proofs.Math.Path.{sym, ap}
use Rattle.std.proofs.Common.{ap₂, ◌∙◌, subst, inl, inr, ⊎_elim, arith, eqb-true, eq-eqb}
use Prim.Native.Nat.{ℕ, suc, ◌<◌, ◌≤◌, ◌*◌}
use Rattle.std.proofs.Math.ListN.{length}
use Rattle.std.proofs.lemmas.List.{length-map}
use Rattle.std.proofs.lemmas.Bool.{not-true}
use Rattle.sets.specs.Numbers.{three}
use Rattle.sets.specs.Config.{Config}
use Rattle.sets.specs.Bools.{never_both, is_false, bool_iff, both_true}
use Rattle.groups.specs.Lists.{Any, All, In, Pairwise, Rising, which}
use Rattle.groups.specs.Lists.Laws.{some_map, some_in, in_some, every_map, every_in, in_every, every_of, pairwise_made, rising_unique}
use Rattle.groups.specs.Lists.Tests.{and_true, pairwise_which}
use Rattle.groups.specs.Groups.{Group, insert, rising, alts_of, together, firsts, subset, groups}
use Rattle.groups.specs.Answers.{all_subsets_equal}
use Rattle.groups.proofs.Rising.{by_insert, in_rising, alts_rise, in_alts, Passes, in_passing}
use Rattle.groups.proofs.Firsts.{Likeness, together_kind, other, some_firsts, firsts_some, firsts_once}
use Rattle.groups.proofs.Rules.{subsets}
use Rattle.groups.proofs.Equal.{equal_exact}
use Rattle.groups.proofs.Parts.{which_weaker, firsts_other, sum, sum_same, parts}
use Rattle.groups.proofs.Room.{total, total_sum}

-- ---- three ways of being alike

-- one alternative; one state, context and alternative
unfoldable pub one_alt : Config → Config → Bool
one_alt c d = eqb c.alternative d.alternative

unfoldable pub one_triple : Config → Config → Bool
one_triple c d = together c d && one_alt c d

pub alt_true : (c d : Config) → one_alt c d ≡ true → c.alternative ≡ d.alternative
unfolding one_alt
alt_true c d e = eqb-true c.alternative d.alternative e

pub true_alt : (c d : Config) → c.alternative ≡ d.alternative → one_alt c d ≡ true
unfolding one_alt
true_alt c d e = eq-eqb c.alternative d.alternative e

pub alt_kind : Likeness one_alt
alt_kind = record {
  self = λ c. true_alt c c refl;
  swap = λ c d h. true_alt d c (sym (alt_true c d h));
  next = λ c d e h k. true_alt c e (alt_true c d h ∙ alt_true d e k);
}

pub triple_true : (c d : Config) → one_triple c d ≡ true → (together c d ≡ true) × (one_alt c d ≡ true)
unfolding one_triple
triple_true c d e = and_true (together c d) (one_alt c d) e

pub true_triple : (c d : Config) → together c d ≡ true → one_alt c d ≡ true → one_triple c d ≡ true
unfolding one_triple
true_triple c d e f = both_true (together c d) (one_alt c d) e f

pub triple_kind : Likeness one_triple
triple_kind = record {
  self = λ c. true_triple c c (together_kind.self c) (alt_kind.self c);
  swap = λ c d h. let p = triple_true c d h in true_triple d c (together_kind.swap c d p.0) (alt_kind.swap c d p.1);
  next = λ c d e h k.
      let p = triple_true c d h in
      let q = triple_true d e k in
      true_triple c e (together_kind.next c d e p.0 q.0) (alt_kind.next c d e p.1 q.1);
}

-- ---- numbers that differ are as many in rising order

insert_new : (a : ℕ) (xs : List ℕ) → (In a xs → ⊥) → length (insert a xs) ≡ suc (length xs)
unfolding insert
insert_new a [] n = refl
insert_new a (x ∷ xs) n =
    let h = insert_new a xs (λ m. n (inr m)) in
    by_insert (λ l. length l ≡ suc (suc (length xs))) a x xs (λ l. refl) (λ e. absurd (n (inl (sym e)))) (λ l. omega arith)

rising_all : (xs : List ℕ) → Pairwise (λ x y. x ≡ y → ⊥) xs → length (rising xs) ≡ length xs
unfolding rising
rising_all [] v = refl
rising_all (x ∷ xs) v =
    insert_new x (rising xs) (λ m. every_in (λ y. x ≡ y → ⊥) xs v.0 x ((in_rising x xs).0 m) refl) ∙ ap suc (rising_all xs v.1)

-- the alternatives of configs that differ in them
alts_all : (cs : List Config) → Pairwise (λ c d. one_alt c d ≡ false) cs → length (alts_of cs) ≡ length cs
unfolding alts_of
alts_all cs v =
    let alt : Config → ℕ = λ c. c.alternative in
    rising_all (map alt cs) (pairwise_made alt (λ x y. x ≡ y → ⊥) cs (apart cs v)) ∙ length-map cs alt
  where
    apart : (ds : List Config) → Pairwise (λ c d. one_alt c d ≡ false) ds → Pairwise (λ c d. c.alternative ≡ d.alternative → ⊥) ds
    apart [] w = tt
    apart (d ∷ ds) w = (every_map _ _ ds (λ e f k. never_both (true_alt d e k) f) w.0, apart ds w.1)

-- ---- how many alternatives, subsets and triples

-- The alternatives of the set are as many as the first configs of each.
pub count_alts : (cs : List Config) → length (firsts one_alt cs) ≡ length (alts_of cs)
count_alts cs =
    sym (alts_all (firsts one_alt cs) (firsts_once one_alt cs))
    ∙ ap length (rising_unique (alts_of (firsts one_alt cs)) (alts_of cs) (alts_rise (firsts one_alt cs)) (alts_rise cs)
    (λ a m. (in_alts a cs).1 (firsts_some one_alt (λ c. c.alternative ≡ a) cs ((in_alts a (firsts one_alt cs)).0 m)))
    (λ a m. (in_alts a (firsts one_alt cs)).1 (some_firsts one_alt (λ c. c.alternative ≡ a) cs (λ c d h e. alt_true c d h ∙ e) ((in_alts a cs).0 m))))

module _ (cs : List Config) where
  ts : List Config
  ts = firsts one_triple cs

  -- the alternatives of a subset are as many as the first configs of each triple in it
  count_subset : (c : Config) → length (which (together c) ts) ≡ length (alts_of (which (together c) cs))
  unfolding ts
  count_subset c =
      let P : ℕ → Config → Type 0 = Passes (together c) in
      sym (alts_all (which (together c) ts)
      (pairwise_which (together c) (λ d e. one_triple d e ≡ false) (λ d e. one_alt d e ≡ false) ts
      (λ d e p q n. is_false (one_alt d e) (λ a. never_both (true_triple d e (together_kind.next d c e (together_kind.swap c d p) q) a) n))
      (firsts_once one_triple cs)))
      ∙ ap length (rising_unique (alts_of (which (together c) ts)) (alts_of (which (together c) cs)) (alts_rise (which (together c) ts)) (alts_rise (which (together c) cs))
      (λ a m. (in_passing (together c) a cs).1 (firsts_some one_triple (P a) cs ((in_passing (together c) a ts).0 m)))
      (λ a m. (in_passing (together c) a ts).1 (some_firsts one_triple (P a) cs
      (λ d e h p. let q = triple_true d e h in (together_kind.next c e d p.0 (together_kind.swap d e q.0), alt_true d e q.1 ∙ p.1))
      ((in_passing (together c) a cs).0 m))))

-- the first of the triples are the first of the subsets
firsts_triples : (cs : List Config) → firsts together (firsts one_triple cs) ≡ firsts together cs
unfolding firsts
firsts_triples [] = refl
firsts_triples (c ∷ cs) =
    let fs = firsts one_triple cs in
    ap (λ (l : List Config). c ∷ l)
    (sym (firsts_other together together_kind c (which (other one_triple c) fs))
    ∙ ap (firsts together) (which_weaker (other together c) (other one_triple c)
    (λ d e. rw (is_false (one_triple c d) (λ q. never_both (triple_true c d q).0 (not-true (together c d) e)))) fs)
    ∙ firsts_other together together_kind c fs
    ∙ ap (which (other together c)) (firsts_triples cs))

-- The triples are as many as the alternatives of all subsets together.
pub count_triples : (cs : List Config) → length (firsts one_triple cs) ≡ total (groups cs)
unfolding groups subset ts
count_triples cs =
    sym (parts together together_kind (firsts one_triple cs))
    ∙ ap (sum (λ c. length (which (together c) (firsts one_triple cs)))) (firsts_triples cs)
    ∙ sum_same (λ c. length (which (together c) (firsts one_triple cs))) (λ c. length (alts_of (which (together c) cs))) (firsts together cs)
    (every_of _ (firsts together cs) (count_subset cs))
    ∙ sym (total_sum cs (firsts together cs))

-- ---- equal by counting

-- rising numbers among others are no more, and if as many, the same
among : (xs ys : List ℕ) → Rising xs → Rising ys → ((a : ℕ) → In a xs → In a ys) → (length xs ≤ length ys) × (length xs ≡ length ys → xs ≡ ys)
among [] [] v w f = (omega arith, λ e. refl)
among [] (y ∷ ys) v w f = (omega arith, λ e. absurd (omega arith))
among (x ∷ xs) [] v w f = absurd (f x (inl refl))
among (x ∷ xs) (y ∷ ys) v w f =
    three x y
    (λ l. absurd (⊎_elim (λ e. omega arith) (λ m. let k = every_in (λ z. y < z) ys w.0 x m in omega arith) (f x (inl refl))))
    (λ e.
    let r = among xs ys v.1 w.1 (λ a m. ⊎_elim (λ d. let k = every_in (λ z. x < z) xs v.0 a m in absurd (omega arith)) (λ n. n) (f a (inr m))) in
    (omega (arith, r.0), λ d. ap₂ ◌∷◌ e (r.1 (omega arith))))
    (λ l.
    let apart : (a : ℕ) → In a (x ∷ xs) → y ≡ a → ⊥ = λ a m d. ⊎_elim (λ b. omega arith) (λ n. let k = every_in (λ z. x < z) xs v.0 a n in omega arith) m in
    let r = among (x ∷ xs) ys v w.1 (λ a m. ⊎_elim (λ d. absurd (apart a m d)) (λ n. n) (f a m)) in
    (omega (arith, r.0), λ d. absurd (omega (arith, r.0))))

module _ (cs : List Config) where
  -- the group has every alternative of the set
  abbrev Whole : Group → Type 0
  Whole g = g.alternatives ≡ alts_of cs

  -- a group has none but alternatives of the set
  in_all : (g : Group) → In g (groups cs) → (a : ℕ) → In a g.alternatives → In a (alts_of cs)
  in_all g m a n = (in_alts a cs).1 (some_map _ _ cs (λ c o. o.1) ((every_in _ (groups cs) (subsets cs).exact g m a).0 n))

  among_all : (g : Group) → In g (groups cs) → (length g.alternatives ≤ length (alts_of cs)) × (length g.alternatives ≡ length (alts_of cs) → Whole g)
  among_all g m = among g.alternatives (alts_of cs) (every_in _ (groups cs) (subsets cs).rising g m) (alts_rise cs) (in_all g m)

  -- an alternative of the set is in some group
  all_in : (a : ℕ) → In a (alts_of cs) → Any (λ g. In a g.alternatives) (groups cs)
  all_in a n =
      let s = some_in (λ c. c.alternative ≡ a) cs ((in_alts a cs).0 n) in
      let c : Config = s.0 in
      let g = some_in _ (groups cs) (((subsets cs).each c.state c.context).1 (in_some _ cs c s.1 (refl, refl))) in
      in_some (λ h. In a h.alternatives) (groups cs) g.0 g.1
      ((every_in _ (groups cs) (subsets cs).exact g.0 g.1 a).1 (in_some _ cs c s.1 ((sym g.2.0, sym g.2.1), s.2)))

  equal_whole : (all_subsets_equal cs ≡ true) ↔ All Whole (groups cs)
  equal_whole =
      let gs = groups cs in (
        λ e. in_every Whole gs λ g m.
            rising_unique g.alternatives (alts_of cs) (every_in _ gs (subsets cs).rising g m) (alts_rise cs) (in_all g m)
            (λ a n. let s = some_in (λ h. In a h.alternatives) gs (all_in a n) in
            subst (In a) (sym (every_in _ gs (every_in _ gs ((equal_exact cs).0 e) g m) s.0 s.1)) s.2),
        λ v. (equal_exact cs).1 (every_map Whole _ gs (λ g e. every_map Whole (λ h. g.alternatives ≡ h.alternatives) gs (λ h d. e ∙ sym d) v) v),
      )

-- groups of at most n alternatives have n each exactly if they have as many as can be
total_full : (n : ℕ) (gs : List Group) → All (λ g. length g.alternatives ≤ n) gs
    → (total gs ≤ length gs * n) × (total gs ≡ length gs * n → All (λ g. length g.alternatives ≡ n) gs)
unfolding total
total_full n [] v = (omega arith, λ e. tt)
total_full n (g ∷ gs) v = let ih = total_full n gs v.1 in (omega (arith, v.0, ih.0), λ e. (omega (arith, v.0, ih.0), ih.1 (omega (arith, v.0, ih.0))))

full_total : (n : ℕ) (gs : List Group) → All (λ g. length g.alternatives ≡ n) gs → total gs ≡ length gs * n
unfolding total
full_total n [] v = omega arith
full_total n (g ∷ gs) v = omega (arith, v.0, full_total n gs v.1)

-- It is enough to count: triples, subsets and alternatives.
pub equal_count : (cs : List Config) → all_subsets_equal cs ≡ eqb (length (firsts one_triple cs)) (length (firsts together cs) * length (firsts one_alt cs))
unfolding groups
equal_count cs =
    let gs = groups cs in
    let n = length (alts_of cs) in
    let size : length gs ≡ length (firsts together cs) = length-map (firsts together cs) (subset cs) in
    let few = in_every (λ g. length g.alternatives ≤ n) gs (λ g m. (among_all cs g m).0) in
    let same : (total gs ≡ length gs * n) ↔ (length (firsts one_triple cs) ≡ length (firsts together cs) * length (firsts one_alt cs)) = (
      λ e. count_triples cs ∙ e ∙ ap₂ ◌*◌ size (sym (count_alts cs)),
      λ e. sym (count_triples cs) ∙ e ∙ ap₂ ◌*◌ (sym size) (count_alts cs),
    ) in
    bool_iff (all_subsets_equal cs) (eqb (length (firsts one_triple cs)) (length (firsts together cs) * length (firsts one_alt cs)))
    (λ e. eq-eqb _ _ (same.0 (full_total n gs (every_map (Whole cs) _ gs (λ g d. ap length d) ((equal_whole cs).0 e)))))
    (λ e. (equal_whole cs).1 (in_every (Whole cs) gs (λ g m. (among_all cs g m).1 (every_in _ gs ((total_full n gs few).1 (same.1 (eqb-true _ _ e))) g m))))
