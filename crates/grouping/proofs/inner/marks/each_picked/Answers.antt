-- The first config without one is found, or there is none.
use Rattle.grouping.specs.FirstMarked.{each_found}
use Rattle.grouping.proofs.inner.marks.each_picked.Goals as goal

pub returns : goal.returns
returns c =
    let found = c.first_picked in
    (each_found c.args.set.now c.args.alike c.args.by found.result _ c.is_none.ensures found.ensures.0, found.ensures.1)
