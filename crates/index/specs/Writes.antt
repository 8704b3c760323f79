-- The words that code of this crate writes. Nothing here has to be believed.
use Rattle.std.specs.Prelude.{◌≡◌, List, ℕ, ◌<◌, ◌+◌, ◌*◌, ◌/◌, ◌%◌, ◌^◌, length, get_or, set}
use Rattle.layout.specs.Layout.{scratch_words, parent, state}
use Rattle.layout.specs.Scratch.{head, stack_parent, stack_state}
use Rattle.index.specs.Hash.{bucket_of}

-- an entry on the stack
unfoldable pub put_entry : List ℕ → ℕ → ℕ → ℕ → List ℕ
put_entry z e p r = set (set z (7936 + 2 * e) p) (7936 + 2 * e + 1) r

-- context c with the hash h, in front of its bucket's chain
unfoldable pub put_index : List ℕ → ℕ → ℕ → List ℕ
put_index z c h =
    set (set (set (set z (512 + c) (head z (bucket_of h))) (bucket_of h) (c + 1)) (1024 + c) (h % 2 ^ 32)) (1536 + c) (h / 2 ^ 32)

-- n pool entries from `from` on, copied to the stack from place `at` on; nothing below them is touched
pub record Loaded (w z : List ℕ) (from n at : ℕ) (u : List ℕ) : Type 0 where
  pub sized : length u ≡ scratch_words
  pub below : (i : ℕ) → i < 7936 + 2 * at → get_or u i 0 ≡ get_or z i 0
  pub parents : (j : ℕ) → j < n → stack_parent u (at + j) ≡ parent w (from + j)
  pub states : (j : ℕ) → j < n → stack_state u (at + j) ≡ state w (from + j)
