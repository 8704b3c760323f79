-- To believe: checks in order, and the first that a call does not pass.
pub mod Laws
use Rattle.std.specs.Prelude.{Bool, true, false, List, [], ◌∷◌, ℕ}
use Rattle.layout.specs.Store.{Found, at, nowhere}

-- a refusal's number, and does its reason hold
pub record Check : Type 0 where
  pub number : ℕ
  pub holds : Bool

abbrev pub given : ℕ → Bool → Check
given n b = record { number = n; holds = b }

-- what the first refusal leaves whose reason holds, or what the call leaves where none does
unfoldable pub unless {ℓ} : {A : Type ℓ} → List Check → (ℕ → A) → A → A
unless [] refuse go = go
unless (c ∷ cs) refuse go = elim c.holds [ true ↦ refuse c.number | false ↦ unless cs refuse go ]

-- "Refusal numbers, in order of checking"; of room and work the one that is reached first, so 6 is told of calls that are not refused 12
abbrev pub order : List ℕ
order = 2 ∷ 1 ∷ 3 ∷ 10 ∷ 7 ∷ 4 ∷ 5 ∷ 8 ∷ 12 ∷ 6 ∷ 9 ∷ []

-- ---- when a refusal is due

-- the number of the first check whose reason holds
abbrev pub due : List Check → Found
due cs = unless cs at nowhere
