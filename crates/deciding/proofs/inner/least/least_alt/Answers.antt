-- The smallest of the configs before.
use mathlib.Core.Path.{ap}
use Rattle.groups.specs.Config.{Config}
use Rattle.deciding.specs.Alone.{least_next}
use Rattle.deciding.proofs.inner.least.least_alt.Goals as goal

pub loop-place-preserved : goal.loop-place-preserved
loop-place-preserved c =
    least_next c.args.set.now c.loop-place.place c.loop-place.least c.config_at.result.alt.0 c.min-least.result c.loop-place.invariant
    (ap (λ (x : Config). x.alternative) c.config_at.ensures) c.min-least.ensures
