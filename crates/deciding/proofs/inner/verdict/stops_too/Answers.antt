-- The state of the config is listed.
use mathlib.Core.Path.{ap, ◌∙◌}
use lib.Dec.{eqb}
use Rattle.groups.specs.Config.{Config}
use Rattle.groups.specs.SetsLists.{any}
use Rattle.deciding.specs.Stops.{listed}
use Rattle.deciding.proofs.inner.verdict.stops_too.Goals as goal

pub returns-then-place-eq0 : goal.returns-then-place-eq0
returns-then-place-eq0 c =
    c.contains.ensures.value ∙ listed c.args.stops.now c.config_at-state.result.state
    ∙ ap (λ (x : Config). any (eqb x.state) c.args.stops.now) c.config_at-state.ensures
