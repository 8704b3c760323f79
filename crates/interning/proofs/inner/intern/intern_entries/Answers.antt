-- No entries or `$` alone are the empty context; anything else is looked up.
use native.Mathlib.Omega.{arith}
use Rattle.interning.specs.Making.{none_pushed, dollar_pushed}
use Rattle.interning.proofs.inner.intern.intern_entries.Goals as goal

pub returns-then-n-eq0 : goal.returns-then-n-eq0
returns-then-n-eq0 c =
    let is = none_pushed c.requires.0 c.if-n-eq0.true in
    rw c.found.ensures (is.0, is.1, omega arith)

pub returns-then-stack_entry : goal.returns-then-stack_entry
returns-then-stack_entry c =
    let pre = c.requires.0 in
    let is = dollar_pushed pre c.if-n-eq0.false (rw c.stack_entry.ensures at c.if-stack_entry.true) in
    rw c.found-then-stack_entry.ensures (is.0, is.1, omega arith)
