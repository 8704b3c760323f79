-- The configs up to `place` have passed, and the flags are theirs; the first that does not pass ends the check.
use native.Mathlib.Numerals.{add-one}
use Rattle.setcheck.specs.Configs.{config_of}
use Rattle.setcheck.specs.Judged.{gathered_none, gathered_next}
use Rattle.setcheck.proofs.inner.check.check_configs.Goals as goal

pub loop-place-init : goal.loop-place-init
loop-place-init c =
    let args = c.args in
    gathered_none args.set.now args.scratch.now args.contexts c.requires.0

pub loop-place-preserved : goal.loop-place-preserved
loop-place-preserved c =
    let check-config = c.check_config in
    let loop = c.loop-place in
    let config-at = c.config_at-config in
    let good = rw (c.if-not-check_config.false) at check-config.ensures in
    rw (add-one loop.place, c.joined_flags-flags.ensures)
    (gathered_next loop.invariant check-config.new.scratch good (config_of config-at.result) config-at.ensures)
