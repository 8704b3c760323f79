-- The configs before agree with the first of their subset; `Clash` says what follows.
use Prim.Native.Nat.{ℕ, ◌<◌}
use Rattle.grouping.specs.Clash.{Agrees}
use Rattle.grouping.proofs.inner.clash.clashes.Given as goal

abbrev pub invariant-loop-place : goal.invariant-loop-place
invariant-loop-place l = (i : ℕ) → i < l.place → Agrees l.set l.scratch i
