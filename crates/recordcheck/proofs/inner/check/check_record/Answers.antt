-- A singleton, an array, or no good record.
use mathlib.Core.Path.{sym, ◌∙◌}
use Rattle.layout.specs.Records.{record_single, record_array}
use Rattle.recordcheck.specs.Judge.{good_kind}
use Rattle.recordcheck.proofs.inner.check.check_record.Goals as goal

pub check_single-requires : goal.check_single-requires
check_single-requires c = (c.requires.0, c.requires.1, sym c.record_of.ensures ∙ c.in-Single.is)

pub check_array-requires : goal.check_array-requires
check_array-requires c = (c.requires.0, c.requires.1, sym c.record_of.ensures ∙ c.in-Array.is)

pub returns-in_default : goal.returns-in_default
returns-in_default c = (
  good_kind c.args.store.now c.args.context (λ e. c.in_default.not-Single _ (c.record_of.ensures ∙ record_single _ _ _ e))
      (λ e. c.in_default.not-Array _ _ (c.record_of.ensures ∙ record_array _ _ _ e)),
  c.requires.0.index.sized,
)
