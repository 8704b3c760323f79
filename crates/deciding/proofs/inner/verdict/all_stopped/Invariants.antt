-- The configs before are in listed states.
use Rattle.std.specs.Prelude.{◌≡◌, true, ℕ, ◌<◌}
use Rattle.deciding.specs.Stops.{Stop}
use Rattle.deciding.proofs.inner.verdict.all_stopped.Given as goal

abbrev pub invariant-loop-place : goal.invariant-loop-place
invariant-loop-place l = (i : ℕ) → i < l.place → Stop l.stops l.set i ≡ true
