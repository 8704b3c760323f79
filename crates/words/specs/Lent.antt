-- Lent words after clearing and copying, and the test for are_zeros. Nothing here has to be believed.
pub mod Laws
use Rattle.std.specs.Prelude.{ℕ, ◌+◌, ◌-◌, Bool, true, ◌&&◌, List, [], ◌∷◌, ◌++◌, take, drop, replicate, ◌==◌}

-- the words with are_zeros from `from` up to, not including, `to`
unfoldable pub cleared_range : List ℕ → ℕ → ℕ → List ℕ
cleared_range ws from to = take from ws ++ replicate (to - from) 0 ++ drop to ws

-- the target with `count` words of the source, from `from` on, in place of its own from `at` on
unfoldable pub copied_range : List ℕ → ℕ → List ℕ → ℕ → ℕ → List ℕ
copied_range target at source from count = take at target ++ take count (drop from source) ++ drop (at + count) target

-- are all of them 0
unfoldable pub are_zeros : List ℕ → Bool
are_zeros [] = true
are_zeros (w ∷ ws) = w == 0 && are_zeros ws

-- are the words from `from` up to, not including, `to` all 0
unfoldable pub all_zero : List ℕ → ℕ → ℕ → Bool
all_zero ws from to = are_zeros (take (to - from) (drop from ws))
