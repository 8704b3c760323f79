-- One comparison, if there is a word.
use borrow.Author.Tests.{eq-eqb, ne_eqb}
use Rattle.outputs.specs.Insert.{ends_in}
use Rattle.outputs.proofs.inner.insert.ends_in.Goals as goal

pub returns-then-count-eq0 : goal.returns-then-count-eq0
unfolding ends_in
returns-then-count-eq0 c = rw (eq-eqb c.args.count 0 c.if-count-eq0.true, ends_in)

pub returns : goal.returns
unfolding ends_in
returns c = rw (ne_eqb c.args.count 0 c.if-count-eq0.false, ends_in)
