-- The derived equality compares the numbers.
use mathlib.Core.Path.{sym, ◌∙◌}
use Rattle.setcheck.specs.Keys.{same_numbers}
use Rattle.grouping.proofs.inner.lead.fn.find_alike.last_chained.Goals as goal

pub returns : goal.returns
returns c =
    let t = c.traits_of in
    c.eq.ensures ∙ rw (← t.ensures) (sym (same_numbers t.result c.captures.traits))
