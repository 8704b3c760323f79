-- Up to i the entries agree; the first that do not tell the lists apart.
use Rattle.std.proofs.Common.{sym, eq-eqb, arith}
use Rattle.index.specs.Same.{entries_same, entry_other}
use Rattle.index.proofs.find.same_entries.Goals as goal

pub returns-then-ne : goal.returns-then-ne
returns-then-ne c =
    let a = c.args in
    let r = c.requires in
    let differ = rw (c.pool_entry.ensures, c.stack_entry.ensures) at c.if-ne.ensures in
    sym
    (entry_other a.store.now a.scratch.now a.from a.at a.n r.pool.1 r.stacked c.loop-i.i (omega arith)
    (λ s p. let no = rw (eq-eqb _ _ p, eq-eqb _ _ s) at differ in cc))

pub returns : goal.returns
returns c =
    let a = c.args in
    let r = c.requires in
    sym (entries_same a.store.now a.scratch.now a.from a.at a.n r.pool.1 r.stacked (λ j h. c.loop-i.invariant j (omega arith)))
