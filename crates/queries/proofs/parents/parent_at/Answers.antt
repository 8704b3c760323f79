-- By record and index: a singleton's parent, a place in the pool, past the end, context 0.
use mathlib.Core.Path.{sym, ap, ◌∙◌}
use native.Mathlib.Omega.{arith}
use Rattle.store.specs.Calls.{context}
use Rattle.layout.specs.Records.{of_single, of_array, record_single, record_array}
use Rattle.layout.specs.declared.entry.Entry.{Entry}
use Rattle.queries.proofs.EntryWords.{bounds_read, parent_read, parent_many_past, parent_one, parent_other_past, parent_zero, is_root}
use Rattle.queries.proofs.parents.parent_at.Goals as goal

pub returns-then-index-eq0 : goal.returns-then-index-eq0
returns-then-index-eq0 c =
    let a = c.args in
    let one = of_single a.store.now a.context c.in-Single.entry (sym c.record_of.ensures ∙ c.in-Single.is) in
    ap context one.1 ∙ sym (parent_one c.requires a.index (λ e. omega arith) (λ e. omega arith) c.if-index-eq0.true)

pub returns-else-index-eq0 : goal.returns-else-index-eq0
returns-else-index-eq0 c =
    let a = c.args in
    let one = of_single a.store.now a.context c.in-Single.entry (sym c.record_of.ensures ∙ c.in-Single.is) in
    sym (parent_other_past c.requires a.index (λ e. omega arith) c.if-index-eq0.false)

pub overflow_add-from : goal.overflow_add-from
overflow_add-from c =
    let a = c.args in
    let many = of_array a.store.now a.context _ _ (sym c.record_of.ensures ∙ c.in-Array.is) in
    omega (arith, c.if-index-n.true, bounds_read c.requires many.0 _ _ many.1 many.2)

pub pool_entry-requires : goal.pool_entry-requires
pool_entry-requires c =
    let a = c.args in
    let many = of_array a.store.now a.context _ _ (sym c.record_of.ensures ∙ c.in-Array.is) in
    omega (arith, c.if-index-n.true, bounds_read c.requires many.0 _ _ many.1 many.2)

pub returns-then-index-n : goal.returns-then-index-n
returns-then-index-n c =
    let a = c.args in
    let many = of_array a.store.now a.context _ _ (sym c.record_of.ensures ∙ c.in-Array.is) in
    parent_read c.requires many.0 _ _ many.1 many.2 a.index c.if-index-n.true _ (ap (λ (x : Entry). x.parent.0) c.pool_entry.ensures)

pub returns-else-index-n : goal.returns-else-index-n
returns-else-index-n c =
    let a = c.args in
    let many = of_array a.store.now a.context _ _ (sym c.record_of.ensures ∙ c.in-Array.is) in
    sym (parent_many_past c.requires a.index many.0 (omega (arith, many.2, c.if-index-n.false)))

pub returns-in_default : goal.returns-in_default
returns-in_default c =
    let other = c.in_default in
    sym
    (parent_zero c.requires c.args.index
    (is_root c.requires (λ e. other.not-Single _ (c.record_of.ensures ∙ record_single _ _ _ e))
    (λ e. other.not-Array _ _ (c.record_of.ensures ∙ record_array _ _ _ e))))
