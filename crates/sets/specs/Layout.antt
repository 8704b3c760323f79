-- To believe: the 1,538 words of a config set, by name. `v` is a set's words. Here and nowhere else stands which words a config has.
use Rattle.std.specs.Prelude.{Bool, List, [], ◌∷◌, ℕ, ◌+◌, ◌*◌, ◌/◌, ◌%◌, eqb, get_or}
use Rattle.sets.specs.Config.{Config, config}

abbrev pub most_configs : ℕ
most_configs = 256

abbrev pub config_words : ℕ
config_words = 6

-- the first config stands after count and flags
abbrev pub first_config : ℕ
first_config = 2

abbrev pub set_words_length : ℕ
set_words_length = first_config + config_words * most_configs

-- "six words a config: state, alternative, context, semantic id, reach, provenance"
unfoldable pub fields : Config → List ℕ
fields x = x.state ∷ x.alternative ∷ x.context ∷ x.semantic ∷ x.reach ∷ x.provenance ∷ []

-- word f of config i
unfoldable pub field : List ℕ → ℕ → ℕ → ℕ
field v i f = get_or v (first_config + config_words * i + f) 0

unfoldable pub config_at : List ℕ → ℕ → Config
config_at v i = config (field v i 0) (field v i 1) (field v i 2) (field v i 3) (field v i 4) (field v i 5)

unfoldable pub config_count : List ℕ → ℕ
config_count v = get_or v 0 0

unfoldable pub flag_word : List ℕ → ℕ
flag_word v = get_or v 1 0

-- "flags (1 full context, 2 has semantic, 4 dips, 8 read-only)"
unfoldable pub flag : ℕ → List ℕ → Bool
flag b v = eqb (flag_word v / b % 2) 1
