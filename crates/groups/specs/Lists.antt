-- To believe: some and every element of a list, which comes first, and those that pass a test.
pub mod Laws
pub mod Tests
use Rattle.std.specs.Prelude.{◌≡◌, ◌⊎◌, Bool, true, false, List, [], ◌∷◌, ℕ, ◌<◌}

module _ {A : Type 0} where
  -- some element is a P
  abbrev pub Any : (A → Type 0) → List A → Type 0
  Any P [] = ⊥
  Any P (x ∷ xs) = P x ⊎ Any P xs

  -- every element is a P
  abbrev pub All : (A → Type 0) → List A → Type 0
  All P [] = Unit {0}
  All P (x ∷ xs) = P x × All P xs

  -- a is one of the elements
  abbrev pub In : A → List A → Type 0
  In a xs = Any (λ x. x ≡ a) xs

  -- R holds between each element and every later one
  abbrev pub Pairwise : (A → A → Type 0) → List A → Type 0
  Pairwise R [] = Unit {0}
  Pairwise R (x ∷ xs) = All (R x) xs × Pairwise R xs

  -- read from the front, a P comes and no Q came before it
  abbrev pub Before : (A → Type 0) → (A → Type 0) → List A → Type 0
  Before P Q [] = ⊥
  Before P Q (x ∷ xs) = P x ⊎ ((Q x → ⊥) × Before P Q xs)

  -- the elements that pass the test
  unfoldable pub which : (A → Bool) → List A → List A
  which t [] = []
  which t (x ∷ xs) = elim (t x) [ true ↦ x ∷ which t xs | false ↦ which t xs ]

-- each number is above the one before
abbrev pub Rising : List ℕ → Type 0
Rising xs = Pairwise (λ x y. x < y) xs
