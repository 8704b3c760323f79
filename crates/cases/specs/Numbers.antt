-- Two numbers compared, for proofs by cases. Nothing here has to be believed.
use Rattle.std.specs.Prelude.{◌≡◌, ℕ, ◌<◌, ◌≤◌}
use Rattle.std.proofs.Common.{arith, lt_of_not-le}
use Rattle.std.proofs.Math.Decide.{dec_le, ℕ_discrete}

-- less, equal or greater
pub three {ℓ} : {X : Type ℓ} (a b : ℕ) → (a < b → X) → (a ≡ b → X) → (b < a → X) → X
three a b less equal greater =
    elim (dec_le b a) [
      | no n ↦ less (lt_of_not-le n)
      | yes p ↦ elim (dec_le a b) [ no n ↦ greater (lt_of_not-le n) | yes q ↦ equal (omega arith) ]
    ]

-- equal or not
pub two {ℓ} : {X : Type ℓ} (a b : ℕ) → (a ≡ b → X) → ((a ≡ b → ⊥) → X) → X
two a b equal other = elim (ℕ_discrete a b) [ yes e ↦ equal e | no n ↦ other n ]

-- below or not
pub below? {ℓ} : {X : Type ℓ} (a b : ℕ) → (a < b → X) → (b ≤ a → X) → X
below? a b less more = elim (dec_le b a) [ no n ↦ less (lt_of_not-le n) | yes p ↦ more p ]

-- 0 is not 1
pub never {ℓ} : {X : Type ℓ} → ◌≡◌ {A = ℕ} 0 1 → X
never e = absurd (omega arith)
