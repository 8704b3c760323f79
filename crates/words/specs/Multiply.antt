-- A multiplication by doubling and adding, on its way: internal contracts alone name it, so nothing here has to be believed.
pub mod Laws
use Rattle.std.specs.Prelude.{ℕ, ◌+◌, ◌*◌, ◌%◌, ◌^◌}

-- the sum after n bits more, the lowest of these: it is doubled n times, and x is added as often as they say, read as a number
unfoldable pub taken : ℕ → ℕ → ℕ → ℕ → ℕ
taken n sum x bits = (sum * 2 ^ n + x * (bits % 2 ^ n)) % 2 ^ 64
