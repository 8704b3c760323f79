-- To believe: a number in decimal digits, as ASCII.
pub mod Laws
use Rattle.std.specs.Prelude.{true, false, List, [], ◌∷◌, ◌++◌, ℕ, zero, suc, ◌+◌, ◌/◌, ◌%◌, ltb}

-- n's digits, the last k of them at most
unfoldable pub digits : ℕ → ℕ → List ℕ
digits zero n = []
digits (suc k) n = elim (ltb n 10) [ true ↦ (48 + n) ∷ [] | false ↦ digits k (n / 10) ++ (48 + n % 10) ∷ [] ]

-- all of n's digits: it has no more than n + 1
unfoldable pub decimal : ℕ → List ℕ
decimal n = digits (suc n) n
