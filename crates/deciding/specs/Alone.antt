-- One alternative, or none: what walks over the configs say of it. Nothing here has to be believed.
use Rattle.std.specs.Prelude.{◌≡◌, refl, true, false, List, ℕ, ◌<◌, ◌≤◌, ◌+◌, min, length}
use Rattle.std.proofs.Common.{sym, ap, ◌∙◌, arith}
use Rattle.std.proofs.Math.Decide.{dec_le}
use Rattle.words.specs.Numbers.{two}
use Rattle.words.specs.declared.names.Alternative.{Alternative}
use Rattle.groups.specs.Layout.{most_configs, set_words_length, config_count}
use Rattle.words.specs.Bools.{never_both}
use Rattle.groups.specs.Answers.{none, only, unique_alt, single_viable_alt}
use Rattle.groups.specs.Sentences.{Unique}
use Rattle.groups.proofs.Single.{says_none, unique_says, Served, viable_configs}
use Rattle.grouping.specs.Clash.{configs_of, alt_at}
use Rattle.grouping.specs.Places.{some_place, place_some, every_place, place_every}
use Rattle.grouping.specs.Marks.{each_picked}
use Rattle.grouping.specs.declared.inner.traits.Alike.TheVariants.{Place}
use Rattle.grouping.specs.declared.inner.marks.Picks.TheVariants.{Holders}
use Rattle.deciding.specs.Picked.{holders_picked}

-- a set's words, with a count that is sound
pub record Counted (v : List ℕ) : Type 0 where
  pub sized : length v ≡ set_words_length
  pub few : config_count v ≤ most_configs

-- a is the smallest alternative of the first n configs
pub record Least (v : List ℕ) (n a : ℕ) : Type 0 where
  pub some : (i : ℕ) × (i < n) × (alt_at v i ≡ a)
  pub least : (i : ℕ) → i < n → a ≤ alt_at v i

-- the first n configs have the alternative of the first
abbrev pub Same : List ℕ → ℕ → Type 0
Same v n = (i : ℕ) → i < n → alt_at v i ≡ alt_at v 0

module _ (v : List ℕ) where
  -- ---- of every config

  pub unique_none : config_count v ≡ 0 → unique_alt (configs_of v) ≡ none
  unique_none e = says_none (Unique (configs_of v)) (unique_alt (configs_of v)) (unique_says (configs_of v)) (λ a u. let s = some_place v _ (config_count v) u.0 in omega (arith, s.1))

  pub unique_two : (i : ℕ) → i < config_count v → (alt_at v i ≡ alt_at v 0 → ⊥) → unique_alt (configs_of v) ≡ none
  unique_two i h d =
      says_none (Unique (configs_of v)) (unique_alt (configs_of v)) (unique_says (configs_of v)) (λ a u.
      let f = every_place v (λ c. c.alternative ≡ a) (config_count v) u.1 in
      d (f i h ∙ sym (f 0 (omega arith))))

  pub unique_one : 0 < config_count v → Same v (config_count v) → unique_alt (configs_of v) ≡ only (alt_at v 0)
  unique_one h f =
      (unique_says (configs_of v) (alt_at v 0)).1
      (place_some v (λ c. c.alternative ≡ alt_at v 0) (config_count v) 0 h refl, place_every v (λ c. c.alternative ≡ alt_at v 0) (config_count v) f)

  -- ---- the smallest of every subset

  pub viable_none : config_count v ≡ 0 → single_viable_alt (configs_of v) ≡ none
  viable_none e = says_none (Served (configs_of v)) (single_viable_alt (configs_of v)) (viable_configs (configs_of v)) (λ a s. let r = some_place v _ (config_count v) s.some in omega (arith, r.1))

  module _ (x : Alternative) (l : Least v (config_count v) x.0) where
    pub viable_held : each_picked Place (Holders x) (configs_of v) ≡ true → single_viable_alt (configs_of v) ≡ only x.0
    viable_held e =
        (viable_configs (configs_of v) x.0).1 (record {
          some = place_some v (λ c. c.alternative ≡ x.0) (config_count v) l.some.0 l.some.1 l.some.2;
          least = place_every v (λ c. x.0 ≤ c.alternative) (config_count v) l.least;
          each = (holders_picked (configs_of v) x.0 x refl).0 e;
        })

    pub viable_not_held : each_picked Place (Holders x) (configs_of v) ≡ false → single_viable_alt (configs_of v) ≡ none
    viable_not_held e =
        says_none (Served (configs_of v)) (single_viable_alt (configs_of v)) (viable_configs (configs_of v)) (λ a s.
        let r = some_place v (λ c. c.alternative ≡ a) (config_count v) s.some in
        let low = every_place v (λ c. a ≤ c.alternative) (config_count v) s.least l.some.0 l.some.1 in
        let q : x.0 ≡ a = omega (arith, l.least r.0 r.1, r.2, low, l.some.2) in
        never_both ((holders_picked (configs_of v) a x q).1 s.each) e)

-- ---- as the code has them

pub same_begin : (v : List ℕ) → Same v 1
same_begin v i h = let e : i ≡ 0 = omega arith in ap (alt_at v) e

pub same_more : (v : List ℕ) (m : ℕ) → Same v m → alt_at v m ≡ alt_at v 0 → Same v (m + 1)
same_more v m f e i h = two i m (λ q. rw q e) (λ q. f i (omega arith))

pub least_begin : (v : List ℕ) (a : ℕ) → a ≡ alt_at v 0 → Least v 1 a
least_begin v a e = record { some = (0, omega arith, sym e); least = λ i h. let q : i ≡ 0 = omega arith in rw (q, e) (omega arith) }

pub least_next : (v : List ℕ) (m a b r : ℕ) → Least v m a → b ≡ alt_at v m → r ≡ min a b → Least v (m + 1) r
least_next v m a b r l e h = record {
  some = elim (dec_le a b) [
    | yes q ↦ (l.some.0, omega (arith, l.some.1), l.some.2 ∙ omega arith)
    | no q ↦ (m, omega arith, sym e ∙ omega arith)
  ];
  least = λ i k. two i m (λ q. rw (q, ← e) (omega arith)) (λ q. omega (arith, l.least i (omega arith)));
}
