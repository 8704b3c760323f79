-- The 16,384 words of the scratch, by name: index heads, links, hashes in halves; merge cache; entry stack. `z` is the scratch's words. Nothing here has to be believed.
use Rattle.std.specs.Prelude.{List, ℕ, ◌+◌, ◌*◌, get_or}

-- number + 1 of the newest context of a bucket
unfoldable pub head : List ℕ → ℕ → ℕ
head z b = get_or z b 0

-- number + 1 of the next older context of the same bucket
unfoldable pub link : List ℕ → ℕ → ℕ
link z c = get_or z (512 + c) 0

unfoldable pub low : List ℕ → ℕ → ℕ
low z c = get_or z (1024 + c) 0

unfoldable pub high : List ℕ → ℕ → ℕ
high z c = get_or z (1536 + c) 0

-- the stack's entries, 4,200 of them
unfoldable pub stack_parent : List ℕ → ℕ → ℕ
stack_parent z e = get_or z (7936 + 2 * e) 0

unfoldable pub stack_state : List ℕ → ℕ → ℕ
stack_state z e = get_or z (7936 + 2 * e + 1) 0
