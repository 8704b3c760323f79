-- To believe: the words of a set, the set that words hold, and when words are sound.
use Rattle.std.specs.Prelude.{◌≡◌, ◌↔◌, Bool, true, false, not, ◌&&◌, ℕ, zero, suc, ◌<◌, ◌≤◌, ◌+◌, ◌*◌, ◌-◌, ltb, leb, length, get_or}
use mathlib.Core.List.{List, [], ◌∷◌, ◌++◌, flat_map}
use Rattle.encoding.specs.Layout.{blank}
use Rattle.encoding.specs.Decide.{same_words}
use Rattle.sets.specs.Config.{Config}
use Rattle.sets.specs.Lists.{any, all}
use Rattle.sets.specs.Layout.{most_configs, config_words, first_config, set_words_length, fields, config_at, config_count, flag_word, flag}
use Rattle.sets.specs.Sets.{Set, has_semantic, dips, key, same_keys}

-- ---- from a set to words

-- a flag's bit where the flag is set
unfoldable pub bit : Bool → ℕ → ℕ
bit true b = b
bit false b = 0

unfoldable pub flags_of : Set → ℕ
flags_of S = bit S.full 1 + bit (has_semantic S.configs) 2 + bit (dips S.configs) 4 + bit S.closed 8

-- count, flags, the words of each config, zeros
unfoldable pub set_words : Set → List ℕ
set_words S = length S.configs ∷ flags_of S ∷ (flat_map fields S.configs ++ blank (config_words * (most_configs - length S.configs)))

-- ---- from words to a set

-- the first n configs
unfoldable pub configs_in : List ℕ → ℕ → List Config
configs_in v zero = []
configs_in v (suc n) = configs_in v n ++ (config_at v n ∷ [])

abbrev pub set_of : List ℕ → Set
set_of v = record { full = flag 1 v; closed = flag 8 v; configs = configs_in v (config_count v) }

-- ---- soundness, with a store of k contexts, clause by clause and in document 01's order

pub record SoundSet (k : ℕ) (v : List ℕ) : Type 0 where
  -- "count (0 to 256)"
  pub counted : config_count v ≤ most_configs
  -- "contexts known"
  pub known : (i : ℕ) → i < config_count v → (config_at v i).context < k
  -- "no two equal keys"
  pub differ : (i j : ℕ) → i < j → j < config_count v → key (config_at v i) ≡ key (config_at v j) → ⊥
  -- "flag 2 exactly if some semantic id is not 0"
  pub semantic : (flag 2 v ≡ true) ↔ ((i : ℕ) × (i < config_count v) × ((config_at v i).semantic ≡ 0 → ⊥))
  -- "flag 4 exactly if some reach is above 0"
  pub dipping : (flag 4 v ≡ true) ↔ ((i : ℕ) × (i < config_count v) × (0 < (config_at v i).reach))
  -- "other flag bits and unused words 0"
  pub flags : flag_word v < 16
  pub unused : (j : ℕ) → first_config + config_words * config_count v ≤ j → j < set_words_length → get_or v j 0 ≡ 0

-- ---- the same as a test: the words are those of the set that they hold, and that set is sound

unfoldable pub distinct : List Config → Bool
distinct [] = true
distinct (x ∷ xs) = not (any (same_keys x) xs) && distinct xs

unfoldable pub good_set : ℕ → Set → Bool
good_set k S = leb (length S.configs) most_configs && (all (λ x. ltb x.context k) S.configs && distinct S.configs)

unfoldable pub sound_set : ℕ → List ℕ → Bool
sound_set k v = good_set k (set_of v) && same_words v (set_words (set_of v))
