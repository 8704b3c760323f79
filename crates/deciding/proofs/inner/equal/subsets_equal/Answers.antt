-- Three counts.
use native.Mathlib.Omega.{arith}
use Rattle.grouping.specs.Step.{few_firsts}
use Rattle.deciding.specs.Picked.{equal_counted, product_few}
use Rattle.grouping.specs.Clash.{configs_of}
use Rattle.deciding.proofs.inner.equal.subsets_equal.Goals as goal

pub overflow_mul-result : goal.overflow_mul-result
overflow_mul-result c =
    let few = c.requires.few in
    let s = c.lead_all-subsets.ensures in
    let a = c.lead_all-alternatives.ensures in
    omega (arith, product_few (few_firsts s.0 s.1 few) (few_firsts a.0 a.1 few))

pub returns : goal.returns
returns c =
    let a = c.lead_all-alternatives.ensures in
    (equal_counted (configs_of c.args.set.now) _ _ _ c.lead_all-triples.ensures.1 c.lead_all-subsets.ensures.1 a.1, a.0.words)
