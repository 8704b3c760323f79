-- The chain is followed link by link; what is known at a link is `Going`, for every pair with that key, and each step is a lemma of `Search`.
use mathlib.Core.Path.{◌≡◌}
use Prim.Native.Nat.{ℕ, ◌≤◌}
use Rattle.cache.specs.Cache.{key_of}
use Rattle.cache.specs.Search.{Going}
use Rattle.cache.proofs.lookup.cached.Given as goal

abbrev pub invariant-loop-next : goal.invariant-loop-next
invariant-loop-next l = (l.next ≤ 1024) × ((a b : ℕ) → l.key ≡ key_of l.root_is_wildcard a b → Going l.scratch l.root_is_wildcard a b l.next)

abbrev pub decreases-loop-next : goal.decreases-loop-next
decreases-loop-next l = l.next
