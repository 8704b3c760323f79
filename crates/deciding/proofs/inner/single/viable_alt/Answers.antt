-- The smallest alternative of the set is viable where every subset has it.
use mathlib.Core.Path.{sym, ◌∙◌}
use Rattle.deciding.specs.Alone.{viable_none, viable_held, viable_not_held}
use Rattle.deciding.proofs.inner.single.viable_alt.Goals as goal

pub returns-then-config_count-eq0 : goal.returns-then-config_count-eq0
returns-then-config_count-eq0 c =
    (sym (viable_none c.args.set.now (sym c.config_count.ensures ∙ c.if-config_count-eq0.true)), c.requires)

pub returns-then-each_picked : goal.returns-then-each_picked
returns-then-each_picked c =
    let p = c.each_picked.ensures in
    (sym (viable_held c.args.set.now (record { 0 = c.least_alt.result }) c.least_alt.ensures (sym p.0 ∙ c.if-each_picked.true)), p.1)

pub returns : goal.returns
returns c =
    let p = c.each_picked.ensures in
    (sym (viable_not_held c.args.set.now (record { 0 = c.least_alt.result }) c.least_alt.ensures (sym p.0 ∙ c.if-each_picked.false)), p.1)
