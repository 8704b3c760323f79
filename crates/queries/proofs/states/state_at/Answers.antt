-- By record and index: a singleton's state, a place in the pool, context 0's empty mark, past the end.
use mathlib.Core.Path.{sym, ap, ◌∙◌}
use native.Mathlib.Omega.{arith}
use Rattle.words.specs.Compact.{expanded}
use Rattle.store.specs.Calls.{state}
use Rattle.layout.specs.Records.{of_single, of_array, record_single, record_array}
use Rattle.layout.specs.declared.entry.Entry.{Entry}
use Rattle.queries.proofs.EntryWords.{bounds_read, state_read, state_many_past, state_other_past, state_one, state_zero}
use Rattle.queries.proofs.states.state_at.Goals as goal

pub returns-then-index-eq0 : goal.returns-then-index-eq0
returns-then-index-eq0 c =
    let a = c.args in
    let one = of_single a.store.now a.context c.in-Single.entry (sym c.record_of.ensures ∙ c.in-Single.is) in
    ap state (c.from.ensures ∙ ap expanded one.2) ∙ sym (state_one c.requires a.index one.0 c.if-index-eq0.true)

pub returns-else-index-eq0 : goal.returns-else-index-eq0
returns-else-index-eq0 c =
    let a = c.args in
    let one = of_single a.store.now a.context c.in-Single.entry (sym c.record_of.ensures ∙ c.in-Single.is) in
    sym (state_other_past c.requires a.index (λ e. omega arith) c.if-index-eq0.false)

pub overflow_add-from : goal.overflow_add-from
overflow_add-from c =
    let a = c.args in
    let many = of_array a.store.now a.context _ _ (sym c.record_of.ensures ∙ c.in-Array.is) in
    omega (arith, c.if-index-n.true, bounds_read c.requires many.0 _ _ many.1 many.2)

pub pool_entry-requires : goal.pool_entry-requires
pool_entry-requires c =
    let a = c.args in
    let many = of_array a.store.now a.context _ _ (sym c.record_of.ensures ∙ c.in-Array.is) in
    omega (arith, c.if-index-n.true, bounds_read c.requires many.0 _ _ many.1 many.2)

pub returns-then-index-n : goal.returns-then-index-n
returns-then-index-n c =
    let a = c.args in
    let many = of_array a.store.now a.context _ _ (sym c.record_of.ensures ∙ c.in-Array.is) in
    state_read c.requires many.0 _ _ many.1 many.2 a.index c.if-index-n.true _ _ (ap (λ (x : Entry). x.state.0) c.pool_entry.ensures) c.from-then-index-n.ensures

pub returns-else-index-n : goal.returns-else-index-n
returns-else-index-n c =
    let a = c.args in
    let many = of_array a.store.now a.context _ _ (sym c.record_of.ensures ∙ c.in-Array.is) in
    sym (state_many_past c.requires a.index many.0 (omega (arith, many.2, c.if-index-n.false)))

pub returns-then-index-eq0-2 : goal.returns-then-index-eq0-2
returns-then-index-eq0-2 c =
    let other = c.in_default in
    sym
    (state_zero c.requires c.args.index (λ e. other.not-Array _ _ (c.record_of.ensures ∙ record_array _ _ _ e))
    (λ e. other.not-Single _ (c.record_of.ensures ∙ record_single _ _ _ e)) c.if-index-eq0-2.true)

pub returns-else-index-eq0-2 : goal.returns-else-index-eq0-2
returns-else-index-eq0-2 c =
    sym
    (state_other_past c.requires c.args.index (λ e. c.in_default.not-Array _ _ (c.record_of.ensures ∙ record_array _ _ _ e)) c.if-index-eq0-2.false)
