-- What the check of a set says of a config and of the set, and what it keeps from config to config. Nothing here has to be believed.
use Rattle.std.specs.Prelude.{◌≡◌, refl, Bool, true, false, List, ℕ, suc, ◌<◌, ◌≤◌, ◌+◌, length, get_or, Option, Some, None}
use Rattle.std.proofs.Common.{sym, ap, ◌∙◌, arith}
use Rattle.words.specs.Numbers.{two}
use Rattle.layout.specs.Store.{at, nowhere}
use Rattle.layout.specs.Layout.{scratch_words}
use Rattle.sets.specs.Config.{Config}
use Rattle.sets.specs.Lists.{any}
use Rattle.words.specs.Bools.{never_both}
use Rattle.sets.specs.Layout.{most_configs, set_words_length, config_at, config_count}
use Rattle.sets.specs.Sets.{key, empty_set, with_configs, has_semantic, dips}
use Rattle.sets.specs.Sets.Laws.{key_of_same, same_of_key}
use Rattle.sets.specs.Chains.{last, last_found, last_none, linked_length, linked_other, chain_add}
use Rattle.sets.specs.Words.{bit, flags_of, configs_in, SoundSet}
use Rattle.setcheck.specs.Flags.{joined_flags, joined_more}
use Rattle.setcheck.specs.Keys.{key_heads, key_links, key_bucket, has_key, put_key, Keyed, SoughtKey}

-- the store's index, which stands below the chains of keys, is as it was
abbrev pub SameIndex : List ℕ → List ℕ → Type 0
SameIndex z u = (j : ℕ) → j < key_heads → get_or u j 0 ≡ get_or z j 0

-- config i, after those before it: its context is known and its key new
pub record GoodConfig (v : List ℕ) (k i : ℕ) : Type 0 where
  pub known : (config_at v i).context < k
  pub new : (j : ℕ) → j < i → key (config_at v j) ≡ key (config_at v i) → ⊥

-- the first n configs are good, and their keys chained
pub record PassedConfigs (v z : List ℕ) (k n : ℕ) : Type 0 where
  pub sized : length v ≡ set_words_length
  pub lent : length z ≡ scratch_words
  pub chains : Keyed v n z
  pub good : (i : ℕ) → i < n → GoodConfig v k i

abbrev pub JudgedConfig : List ℕ → List ℕ → ℕ → ℕ → Bool → List ℕ → Type 0
JudgedConfig v z k n true u = PassedConfigs v u k (suc n) × SameIndex z u
JudgedConfig v z k n false u = (GoodConfig v k n → ⊥) × (length u ≡ scratch_words)

-- so far: f is the flags of a set of these configs that is neither full-context nor closed
pub record Gathered (v z : List ℕ) (k n f : ℕ) (u : List ℕ) : Type 0 where
  pub passed : PassedConfigs v u k n
  pub index : SameIndex z u
  pub flags : f ≡ flags_of (with_configs (empty_set false) (configs_in v n))

abbrev pub JudgedConfigs : List ℕ → List ℕ → ℕ → ℕ → Option ℕ → List ℕ → Type 0
JudgedConfigs v z k n (Some f) u = Gathered v z k n f u
JudgedConfigs v z k n None u = (((i : ℕ) → i < n → GoodConfig v k i) → ⊥) × (length u ≡ scratch_words)

-- the verdict on a set, with a store of k contexts
abbrev pub SetVerdict : List ℕ → List ℕ → ℕ → Bool → List ℕ → Type 0
SetVerdict v z k true u = SoundSet k v × (length u ≡ scratch_words) × Keyed v (config_count v) u × SameIndex z u
SetVerdict v z k false u = (SoundSet k v → ⊥) × (length u ≡ scratch_words)

-- ---- one config more

module _ {v z : List ℕ} {k n : ℕ} (p : PassedConfigs v z k n) (few : n < most_configs) (x : Config) (e : x ≡ config_at v n) where
  pub unknown_bad : k ≤ x.context → GoodConfig v k n → ⊥
  unknown_bad h g = omega (arith, rw e at h, g.known)

  module _ (b : ℕ) (eb : b ≡ key_bucket (key x)) (small : b < 256) where
    pub passed_sought : SoughtKey v z n x b
    passed_sought = record { sized = p.sized; lent = p.lent; few = omega arith; chains = p.chains; bucket = eb; small = small }

    -- its key stands before it
    pub found_bad : (i : ℕ) → last (has_key v x) n ≡ at i → GoodConfig v k n → ⊥
    found_bad i f g =
        let r = last_found (has_key v x) n i f in
        g.new i r.0 (sym (key_of_same x (config_at v i) r.1) ∙ ap key e)

    -- its key is new
    new_good : x.context < k → last (has_key v x) n ≡ nowhere → GoodConfig v k n
    new_good h f = record {
      known = rw e at h;
      new = λ j l q. never_both (same_of_key x (config_at v j) (ap key e ∙ sym q)) (last_none (has_key v x) n f j l);
    }

    pub new_passed : x.context < k → last (has_key v x) n ≡ nowhere → (u : List ℕ) → u ≡ put_key z n b → PassedConfigs v u k (suc n) × SameIndex z u
    new_passed h f u q =
        let apart : key_heads + 256 ≤ key_links = omega arith in
        let room : key_links + n < length z = omega (arith, p.lent) in rw q (
          record {
            sized = p.sized;
            lent = linked_length key_heads key_links n b z apart room small ∙ p.lent;
            chains = chain_add key_heads key_links n b z apart room small _ (sym (eb ∙ ap (λ (y : Config). key_bucket (key y)) e)) p.chains;
            good = λ i l. two i n (λ d. rw d (new_good h f)) (λ d. p.good i (omega arith));
          },
          λ j l. linked_other key_heads key_links n b z apart room small j (omega arith) (omega arith),
        )

-- ---- all configs

pub gathered_none : (v z : List ℕ) (k : ℕ) → PassedConfigs v z k 0 → Gathered v z k 0 0 z
unfolding configs_in flags_of has_semantic dips any bit
gathered_none v z k p = record { passed = p; index = λ j l. refl; flags = refl }

pub gathered_next : {v z : List ℕ} {k n f : ℕ} {u : List ℕ} → Gathered v z k n f u → (y : List ℕ) → PassedConfigs v y k (suc n) × SameIndex u y
    → (x : Config) → x ≡ config_at v n → Gathered v z k (suc n) (joined_flags f x) y
unfolding configs_in
gathered_next {v} {z} {k} {n} g y j x e = record {
  passed = j.0;
  index = λ i l. j.1 i l ∙ g.index i l;
  flags = rw (e, g.flags) (joined_more (with_configs (empty_set false) (configs_in v n)) (config_at v n));
}
