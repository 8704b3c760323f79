-- It is `last`, or is looked for.
use mathlib.Core.Path.{◌∙◌}
use Rattle.deciding.specs.Stops.{listed}
use Rattle.deciding.proofs.inner.verdict.listed_too.Goals as goal

pub returns : goal.returns
returns c = c.contains.ensures.value ∙ listed c.args.stops.now c.args.state
