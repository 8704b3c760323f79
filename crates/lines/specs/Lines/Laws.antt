-- Lines laid out piece by piece, with room for each piece. Nothing here has to be believed.
use Rattle.std.specs.Prelude.{◌≡◌, List, [], ◌∷◌, ◌++◌, ℕ, ◌+◌, ◌<◌, ◌≤◌, length}
use Rattle.std.proofs.Common.{arith, length-append}
use Rattle.lines.specs.Decimal.Laws.{word_digits}
use Rattle.lines.specs.Laid.{Wrote}
use Rattle.lines.specs.Laid.Laws.{wrote_then, wrote_room}
use Rattle.lines.specs.Lines.{line_bytes, spaced, number_line}

-- a number is short
pub spaced_few : (n : ℕ) → n < 4294967296 → length (spaced n) ≤ 39000
spaced_few n h = omega (arith, word_digits n h)

-- a letter, a number, some more, a line end
module _ (b : List ℕ) (sized : length b ≡ line_bytes) (letter n : ℕ) (small : n < 4294967296) {j₁ : ℕ} {u₁ : List ℕ} (v₁ : Wrote b 0 (letter ∷ []) j₁ u₁) where
  pub number_room : j₁ + length (spaced n) ≤ length u₁
  number_room = wrote_room v₁ (length (spaced n)) (omega (arith, word_digits n small))

  module _ {j₂ : ℕ} {u₂ : List ℕ} (v₂ : Wrote u₁ j₁ (spaced n) j₂ u₂) where
    pub more_room : (k : ℕ) → k ≤ 39000 → j₂ + k ≤ length u₂
    more_room k h = wrote_room (wrote_then v₁ v₂) k (omega (arith, word_digits n small))

    pub number_line_lem : {j₃ : ℕ} {u₃ : List ℕ} → Wrote u₂ j₂ (10 ∷ []) j₃ u₃ → Wrote b 0 (number_line letter n) j₃ u₃
    number_line_lem v₃ = wrote_then (wrote_then v₁ v₂) v₃

    module _ (xs : List ℕ) (few : length xs ≤ 39000) {j₃ : ℕ} {u₃ : List ℕ} (v₃ : Wrote u₂ j₂ xs j₃ u₃) where
      pub end_room : j₃ + 1 ≤ length u₃
      end_room = wrote_room (wrote_then (wrote_then v₁ v₂) v₃) 1 (omega (arith, word_digits n small, length-append (letter ∷ spaced n) xs))

      pub headed_line : {j₄ : ℕ} {u₄ : List ℕ} → Wrote u₃ j₃ (10 ∷ []) j₄ u₄ → Wrote b 0 (letter ∷ spaced n ++ xs ++ 10 ∷ []) j₄ u₄
      headed_line v₄ = wrote_then (wrote_then (wrote_then v₁ v₂) v₃) v₄
