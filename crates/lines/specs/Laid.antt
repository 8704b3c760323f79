-- To believe: bytes laid in a lent buffer.
pub mod Laws
use Rattle.std.specs.Prelude.{◌≡◌, List, ℕ, ◌+◌, ◌≤◌, length}
use Rattle.std.proofs.lemmas.List.Edits.{sets}

-- the buffer b with the bytes xs from place i on
unfoldable pub laid : List ℕ → ℕ → List ℕ → List ℕ
laid b i xs = sets b i xs

-- u is b with xs laid from place i on, and j is the place after them
pub record Wrote (b : List ℕ) (i : ℕ) (xs : List ℕ) (j : ℕ) (u : List ℕ) : Type 0 where
  pub after : j ≡ i + length xs
  pub bytes : u ≡ laid b i xs
  pub within : j ≤ length b
