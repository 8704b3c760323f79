-- What `each_picked` and the counts say of the subsets. Nothing here has to be believed.
use Rattle.std.specs.Prelude.{◌≡◌, refl, ◌↔◌, Bool, true, false, ◌&&◌, ◌||◌, not, List, [], ◌∷◌, ℕ, ◌≤◌, ◌*◌, eqb, length}
use Rattle.std.proofs.Common.{sym, ap, ap₂, ◌∙◌, arith, mul-le-mul_right, eqb-true, eq-eqb, ne_eqb}
use Rattle.std.proofs.Math.Path.{fun_ext}
use Rattle.std.proofs.lemmas.List.{length-map}
use Rattle.std.proofs.lemmas.Bool.{eqb-false, not-true}
use Rattle.groups.specs.Config.{Config}
use Rattle.groups.specs.SetsLists.{any, all}
use Rattle.words.specs.Bools.{bool?, bool_iff, both_true, and_left, and_right}
use Rattle.groups.specs.Lists.{Any, All, which}
use Rattle.groups.specs.Lists.Tests.{any_exact, all_exact}
use Rattle.groups.specs.Groups.{together, firsts, subset, groups}
use Rattle.groups.specs.Answers.{all_subsets_conflict, all_subsets_equal, just_one}
use Rattle.groups.proofs.Rules.{Beside}
use Rattle.groups.proofs.Conflicts.{conflict_configs}
use Rattle.groups.proofs.Counted.{equal_count}
use Rattle.grouping.specs.Alike.{alike_of}
use Rattle.grouping.specs.Ways.{place_true, true_place, same_places, same_alts, same_triples, same_states}
use Rattle.grouping.specs.Marks.{picks, each_picked}
use Rattle.grouping.specs.declared.inner.traits.Alike.{Alike}
use Rattle.grouping.specs.declared.inner.traits.Alike.TheVariants.{State, Place, Alternative, Triple}
use Rattle.grouping.specs.declared.inner.marks.Picks.{Picks}
use Rattle.grouping.specs.declared.inner.marks.Picks.TheVariants.{Rivals, Holders}

-- ---- counted

-- `all_subsets_equal` by three counts
pub equal_counted : (cs : List Config) (t s a : ℕ) → t ≡ length (firsts (alike_of Triple) cs) → s ≡ length (firsts (alike_of Place) cs) → a ≡ length (firsts (alike_of Alternative) cs)
    → eqb t (s * a) ≡ all_subsets_equal cs
equal_counted cs t s a p q r =
    let count : (Config → Config → Bool) → ℕ = λ k. length (firsts k cs) in
    ap₂ eqb (p ∙ ap count same_triples) (ap₂ ◌*◌ (q ∙ ap count same_places) (r ∙ ap count same_alts)) ∙ sym (equal_count cs)

-- how many subsets there are
pub subsets_counted : (cs : List Config) (s : ℕ) → s ≡ length (firsts (alike_of Place) cs) → s ≡ length (groups cs)
unfolding groups
subsets_counted cs s e = e ∙ ap (λ (k : Config → Config → Bool). length (firsts k cs)) same_places ∙ sym (length-map (firsts together cs) (subset cs))

-- numbers of at most 256 have a product that fits
pub product_few : {a b : ℕ} → a ≤ 256 → b ≤ 256 → a * b ≤ 65536
product_few {a} {b} h k = omega (arith, mul-le-mul_right b h, k)

-- ---- picked

module _ (k : Alike) (p : Picks) (K P : Config → Config → Type 0)
    (kind : (c d : Config) → (alike_of k c d ≡ true) ↔ K c d) (pick : (c d : Config) → (picks p c d ≡ true) ↔ P c d) (cs : List Config) where
  pub both_exact : (c d : Config) → ((alike_of k c d && picks p c d) ≡ true) ↔ (K c d × P c d)
  both_exact c d = (
    λ e. ((kind c d).0 (and_left _ _ e), (pick c d).0 (and_right (alike_of k c d) _ e)),
    λ h. both_true _ _ ((kind c d).1 h.0) ((pick c d).1 h.1),
  )

  picked_exact : (each_picked k p cs ≡ true) ↔ All (λ c. Any (λ d. K c d × P c d) cs) cs
  unfolding each_picked
  picked_exact = all_exact _ (λ c. Any (λ d. K c d × P c d) cs) cs (λ c. any_exact _ (λ d. K c d × P c d) cs (both_exact c))

pub place_exact : (c d : Config) → (alike_of Place c d ≡ true) ↔ Beside c d
place_exact c d = (place_true c d, true_place c d)

pub rival_exact : (c d : Config) → (picks Rivals c d ≡ true) ↔ (d.alternative ≡ c.alternative → ⊥)
rival_exact c d = (
  λ e. eqb-false d.alternative c.alternative (not-true _ e),
  λ n. rw (ne_eqb d.alternative c.alternative n),
)

-- Each config has a rival in its subset: `all_subsets_conflict`.
pub conflict_picked : (cs : List Config) → each_picked Place Rivals cs ≡ all_subsets_conflict cs
conflict_picked cs =
    let e = picked_exact Place Rivals Beside (λ c d. d.alternative ≡ c.alternative → ⊥) place_exact rival_exact cs in
    bool_iff (each_picked Place Rivals cs) (all_subsets_conflict cs) (λ h. (conflict_configs cs).1 (e.0 h)) (λ h. e.1 ((conflict_configs cs).0 h))

-- Each config has one in its subset with alternative a.
pub holders_picked : (cs : List Config) (a : ℕ) (x : Rattle.words.specs.declared.names.Alternative.Alternative) → x.0 ≡ a
    → (each_picked Place (Holders x) cs ≡ true) ↔ All (λ c. Any (λ d. Beside c d × (d.alternative ≡ a)) cs) cs
holders_picked cs a x e =
    picked_exact Place (Holders x) Beside (λ c d. d.alternative ≡ a) place_exact
    (λ c d. (λ h. eqb-true d.alternative x.0 h ∙ e, λ h. eq-eqb d.alternative x.0 (h ∙ sym e))) cs

-- ---- no state has just one

-- some that passes s fails e, exactly if not all that pass s pass e
pub any_fails : {A : Type 0} (s e : A → Bool) (xs : List A) → any (λ x. s x && not (e x)) xs ≡ not (all e (which s xs))
unfolding any all which
any_fails s e [] = refl
any_fails s e (x ∷ xs) =
    bool? (s x)
    (λ h. rw (h, any_fails s e xs, which) (not_and (e x) (all e (which s xs))))
    (λ h. rw (h, which) (any_fails s e xs))
  where
    not_and : (a b : Bool) → (not a || not b) ≡ not (a && b)
    not_and true b = refl
    not_and false b = refl

all_not : {A : Type 0} (t : A → Bool) (xs : List A) → all (λ x. not (t x)) xs ≡ not (any t xs)
unfolding any all
all_not t [] = refl
all_not t (x ∷ xs) = ap (λ (b : Bool). not (t x) && b) (all_not t xs) ∙ not_or (t x) (any t xs)
  where
    not_or : (a b : Bool) → (not a && not b) ≡ not (a || b)
    not_or true b = refl
    not_or false b = refl

-- Each config has a rival in its state: no state has just one alternative.
pub states_picked : (cs : List Config) → each_picked State Rivals cs ≡ not (any (just_one cs) cs)
unfolding each_picked just_one
states_picked cs =
    ap (λ (t : Config → Bool). all t cs)
    (fun_ext λ c. ap (λ (s : Config → Bool). any (λ d. s d && not (eqb d.alternative c.alternative)) cs) (fun_ext (same_states c))
    ∙ any_fails (λ d. eqb d.state c.state) (λ d. eqb d.alternative c.alternative) cs)
    ∙ all_not (just_one cs) cs
