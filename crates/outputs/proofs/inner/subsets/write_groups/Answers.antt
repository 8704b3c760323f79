-- Config by config; what is known before each is `Filling`.
use mathlib.Core.Path.{ap, ◌∙◌}
use Prim.Native.Nat.{ℕ}
use native.Mathlib.Omega.{arith}
use lib.ListN.{replicate}
use Rattle.outputs.specs.Written.{filling_none, filling_end, groups_few}
use Rattle.outputs.proofs.inner.subsets.write_groups.Goals as goal

pub overflow_cast-output : goal.overflow_cast-output
overflow_cast-output c =
    let pre = c.requires in
    omega (arith, pre.2, groups_few pre.0)

pub loop-place-init : goal.loop-place-init
loop-place-init c =
    let args = c.args in
    let clear = c.clear in
    let pre = c.requires in
    filling_none args.set.now args.scratch.now pre.0 args.subsets pre.2 clear.new.words (clear.ensures ∙ ap (λ (m : ℕ). replicate m 0) pre.1)

pub returns : goal.returns
returns c =
    let config-count = c.config_count-count in
    filling_end c.loop-place.invariant (omega (arith, c.loop-place-test.false, config-count.ensures))
