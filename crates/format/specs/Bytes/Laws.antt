-- Words one after the other. Nothing here has to be believed.
use Rattle.std.specs.Prelude.{◌≡◌, refl, List, [], ◌∷◌, ◌++◌, ℕ, zero, suc, ◌+◌, ◌*◌, length}
use Rattle.std.proofs.Common.{ap, ◌∙◌, arith}
use Rattle.format.specs.Bytes.{u32_at, words_at}

pub length_words : (s : List ℕ) (p n : ℕ) → length (words_at s p n) ≡ n
unfolding words_at
length_words s p zero = refl
length_words s p (suc n) = ap suc (length_words s (p + 4) n)

-- one word more
pub words_more : (s : List ℕ) (p n : ℕ) → words_at s p (suc n) ≡ words_at s p n ++ u32_at s (p + 4 * n) ∷ []
unfolding words_at
words_more s p zero = ap (λ (i : ℕ). u32_at s i ∷ []) (omega arith)
words_more s p (suc n) =
    ap (λ (l : List ℕ). u32_at s p ∷ l)
    (words_more s (p + 4) n ∙ ap (λ (i : ℕ). words_at s (p + 4) n ++ u32_at s i ∷ []) (omega arith))
