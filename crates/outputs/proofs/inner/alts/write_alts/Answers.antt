-- Config by config; what is known before each is `Writing`.
use mathlib.Core.Path.{ap, ◌∙◌}
use Prim.Native.Nat.{ℕ}
use native.Mathlib.Omega.{arith}
use lib.ListN.{replicate}
use Rattle.groups.specs.Config.{Config}
use Rattle.outputs.specs.Alts.{writing_none, writing_asks, writing_next, writing_end, writing_fits}
use Rattle.outputs.proofs.inner.alts.write_alts.Goals as goal

pub loop-place-init : goal.loop-place-init
loop-place-init c =
    let args = c.args in
    let clear = c.clear in
    let pre = c.requires in
    writing_none args.set.now pre.0.able.words.few clear.new.words (clear.ensures ∙ ap (λ (m : ℕ). replicate m 0) pre.1)

pub add_if-written-requires : goal.add_if-written-requires
add_if-written-requires c =
    let config-count = c.config_count-count in
    let loop = c.loop-place in
    let loop-test = c.loop-place-test in
    writing_asks loop.invariant (omega (arith, loop-test.true, config-count.ensures)) c.config_at.result.alt.0 (ap (λ (k : Config). k.alternative) c.config_at.ensures)

pub loop-place-preserved : goal.loop-place-preserved
loop-place-preserved c =
    let add-if = c.add_if-written in
    let config-count = c.config_count-count in
    let loop = c.loop-place in
    let loop-test = c.loop-place-test in
    let pre = c.requires in
    writing_next loop.invariant (omega (arith, loop-test.true, config-count.ensures)) c.config_at.result.alt.0 (ap (λ (k : Config). k.alternative) c.config_at.ensures) _
    (pre.0.tells loop.place (omega (arith, loop-test.true, config-count.ensures))) add-if.result add-if.new.words add-if.ensures

pub overflow_cast-output : goal.overflow_cast-output
overflow_cast-output c = omega (arith, (writing_fits c.loop-place.invariant).0)

pub returns : goal.returns
returns c =
    let config-count = c.config_count-count in
    writing_end c.loop-place.invariant (omega (arith, c.loop-place-test.false, config-count.ensures))
