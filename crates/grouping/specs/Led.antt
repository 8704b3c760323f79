-- What stands in the scratch of the first n configs: their chains, and for each the first and the next that is alike. Nothing here has to be believed.
pub mod Laws
use Rattle.std.specs.Prelude.{◌≡◌, List, ℕ, ◌<◌, ◌≤◌, ◌+◌, length, get_or, set}
use Rattle.encoding.specs.Layout.{scratch_words}
use Rattle.groups.specs.Layout.{most_configs, set_words_length, config_at, config_count}
use Rattle.groups.specs.Chains.{Chained}
use Rattle.setcheck.specs.Keys.{key_heads, key_links, key_bucket}
use Rattle.grouping.specs.Alike.{traits_by, alike_at}
use Rattle.grouping.specs.Leads.{FirstAlike, Next}
use Rattle.grouping.specs.declared.inner.traits.Alike.{Alike}

abbrev pub leaders_at : ℕ
leaders_at = 2560

abbrev pub members_at : ℕ
members_at = 2816

abbrev pub marks_at : ℕ
marks_at = 3072

abbrev pub marks_end : ℕ
marks_end = 3328

-- a set's words, and a scratch
pub record Lent (v z : List ℕ) : Type 0 where
  pub sized : length v ≡ set_words_length
  pub few : config_count v ≤ most_configs
  pub lent : length z ≡ scratch_words

-- the bucket of config i
abbrev pub bucket_at : List ℕ → Alike → ℕ → ℕ
bucket_at v k i = key_bucket (traits_by k (config_at v i))

pub record Led (v : List ℕ) (k : Alike) (n : ℕ) (z : List ℕ) : Type 0 where
  pub words : Lent v z
  pub chains : Chained (bucket_at v k) key_heads key_links n z
  pub leads : (i : ℕ) → i < n → FirstAlike (alike_at v k) i (get_or z (leaders_at + i) 0)
  pub nexts : (i : ℕ) → i < n → Next (alike_at v k) n i (get_or z (members_at + i) 0)

-- the words with config n after m, the last one before it that is alike
unfoldable pub followed : List ℕ → ℕ → ℕ → List ℕ
followed y n m = set (set y (leaders_at + n) (get_or y (leaders_at + m) 0)) (members_at + m) (n + 1)
