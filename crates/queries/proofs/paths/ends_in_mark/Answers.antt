-- By record: that of context 0, an array's last entry, and no other.
use mathlib.Core.Path.{sym, ap, ◌∙◌}
use native.Mathlib.Omega.{arith}
use Rattle.std.proofs.Common.{eq-eqb, ne_eqb}
use Rattle.layout.specs.Records.{of_root, of_array, record_root, record_array}
use Rattle.layout.specs.declared.entry.Entry.{Entry}
use Rattle.queries.proofs.EntryWords.{bounds_read, last_read, path_other}
use Rattle.queries.proofs.paths.ends_in_mark.Goals as goal

pub returns-in-Root : goal.returns-in-Root
returns-in-Root c =
    let a = c.args in
    let zero = of_root a.store.now a.context (sym c.record_of.ensures ∙ c.in-Root.is) in
    sym (path_other c.requires (λ e. omega arith) ∙ eq-eqb _ 0 zero)

pub overflow_add-from : goal.overflow_add-from
overflow_add-from c =
    let a = c.args in
    let many = of_array a.store.now a.context _ _ (sym c.record_of.ensures ∙ c.in-Array.is) in
    omega (arith, bounds_read c.requires many.0 _ _ many.1 many.2)

pub overflow_sub-from : goal.overflow_sub-from
overflow_sub-from c =
    let a = c.args in
    let many = of_array a.store.now a.context _ _ (sym c.record_of.ensures ∙ c.in-Array.is) in
    omega (arith, bounds_read c.requires many.0 _ _ many.1 many.2)

pub pool_entry-requires : goal.pool_entry-requires
pool_entry-requires c =
    let a = c.args in
    let many = of_array a.store.now a.context _ _ (sym c.record_of.ensures ∙ c.in-Array.is) in
    omega (arith, bounds_read c.requires many.0 _ _ many.1 many.2)

pub returns-in-Array : goal.returns-in-Array
returns-in-Array c =
    let a = c.args in
    let many = of_array a.store.now a.context _ _ (sym c.record_of.ensures ∙ c.in-Array.is) in
    last_read c.requires many.0 _ _ many.1 many.2 _ (ap (λ (x : Entry). x.state.0) c.pool_entry.ensures)

pub returns-in_default : goal.returns-in_default
returns-in_default c =
    let other = c.in_default in
    sym
    (path_other c.requires (λ e. other.not-Array _ _ (c.record_of.ensures ∙ record_array _ _ _ e))
    ∙ ne_eqb _ 0 (λ e. other.not-Root (c.record_of.ensures ∙ record_root _ _ _ e)))
