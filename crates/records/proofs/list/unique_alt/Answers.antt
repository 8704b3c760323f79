-- No config, or the whole list walked over.
use Rattle.std.proofs.Common.{sym, ap, ◌∙◌}
use Rattle.deciding.specs.OneAlt.{one_alt}
use Rattle.records.specs.Records.{none_first, unique_none, unique_some}
use Rattle.records.proofs.list.unique_alt.Goals as goal

pub returns-in_err-first : goal.returns-in_err-first
returns-in_err-first c =
    rw c.from_residual.ensures (unique_none c.args.configs.now (none_first c.args.configs.now (sym (rw c.in_err-first.was at c.first.ensures.value))))

pub returns : goal.returns
returns c =
    ap one_alt c.then_some.ensures
    ∙ unique_some c.args.configs.now c.in_ok-first.field-0.now (sym (rw c.in_ok-first.was at c.first.ensures.value)) c.loop-config.config-index c.loop-config-test.false
    _ c.loop-config.invariant
