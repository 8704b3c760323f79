-- To believe: numbers in bytes, little-endian.
pub mod Laws
use Rattle.std.specs.Prelude.{List, [], ◌∷◌, ℕ, zero, suc, ◌+◌, ◌*◌, get_or}

unfoldable pub u16_at : List ℕ → ℕ → ℕ
u16_at s i = get_or s i 0 + get_or s (i + 1) 0 * 256

unfoldable pub u32_at : List ℕ → ℕ → ℕ
u32_at s i = get_or s i 0 + get_or s (i + 1) 0 * 256 + get_or s (i + 2) 0 * 65536 + get_or s (i + 3) 0 * 16777216

unfoldable pub u64_at : List ℕ → ℕ → ℕ
u64_at s i = u32_at s i + u32_at s (i + 4) * 4294967296

-- n words from place i on
unfoldable pub words_at : List ℕ → ℕ → ℕ → List ℕ
words_at s i zero = []
words_at s i (suc n) = u32_at s i ∷ words_at s (i + 4) n
