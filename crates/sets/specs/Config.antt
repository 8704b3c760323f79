-- To believe: a config, field by field as document 01 lists its words.
use Rattle.std.specs.Prelude.{ℕ}

pub record Config : Type 0 where
  pub state : ℕ
  pub alternative : ℕ
  pub context : ℕ
  pub semantic : ℕ
  pub reach : ℕ
  pub provenance : ℕ

-- by its six words, in this order
abbrev pub config : ℕ → ℕ → ℕ → ℕ → ℕ → ℕ → Config
config q a c m r p = record { state = q; alternative = a; context = c; semantic = m; reach = r; provenance = p }
