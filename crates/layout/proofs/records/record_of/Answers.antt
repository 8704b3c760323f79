-- Each kind by its law.
use Rattle.std.proofs.Common.{sym, arith}
use Rattle.layout.specs.Layout.{kind, first, second}
use Rattle.layout.specs.Records.{record_root, record_single, record_array, record_none}
use Rattle.layout.proofs.records.record_of.Goals as goal

pub returns-in-0 : goal.returns-in-0
unfolding kind
returns-in-0 c = sym (record_root _ _ _ c.in-0.is)

pub returns-in-1 : goal.returns-in-1
unfolding kind first second
returns-in-1 c = sym (record_single _ _ _ c.in-1.is)

pub returns-in-2 : goal.returns-in-2
unfolding kind first second
returns-in-2 c = sym (record_array _ _ _ c.in-2.is)

pub returns-in_default : goal.returns-in_default
unfolding kind
returns-in_default c = sym (record_none _ _ _ (λ e. omega arith) (λ e. omega arith) (λ e. omega arith))
