-- Each figure by its own walk.
use native.Mathlib.Omega.{arith}
use Rattle.grouping.specs.Clash.{configs_of}
use Rattle.grouping.specs.Step.{few_firsts}
use Rattle.deciding.specs.Picked.{subsets_counted}
use Rattle.figures.specs.Told.{figures_are}
use Rattle.figures.proofs.call.all_figures.Goals as goal

pub overflow_cast-result : goal.overflow_cast-result
overflow_cast-result c =
    let l = c.lead_all-subsets.ensures in
    omega (arith, few_firsts l.0 l.1 c.requires.few)

pub returns : goal.returns
returns c =
    let cs = configs_of c.args.set.now in
    let d = c.decide-verdict.ensures in
    (figures_are c.args.stops.now cs _ _ _ _ (subsets_counted cs _ c.lead_all-subsets.ensures.1) c.common_alt-unique.ensures c.viable_alt-viable.ensures.0 d.0, d.1)
