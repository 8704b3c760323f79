-- Three ranges are cleared and the counts written: `cut`, by computation.
use Rattle.encoding.specs.Cut.{cut}
use Rattle.store.proofs.inner.cut.cut_back.Goals as goal

pub returns : goal.returns
unfolding cut
returns c =
    let clear-range = c.clear_range in
    let clear-range2 = c.clear_range-2 in
    let clear-range3 = c.clear_range-3 in
    rw (c.put_counts.ensures, clear-range3.ensures, clear-range2.ensures, clear-range.ensures)
