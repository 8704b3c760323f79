-- By the record: a singleton's entry, an array's, or `$`.
use mathlib.Core.Path.{sym, ◌∙◌}
use Rattle.layout.specs.Records.{of_single, of_array, record_single, record_array}
use Rattle.lines.specs.Entries.Laws.{known_root, known_pool, line_zero, line_one, line_many}
use Rattle.lines.proofs.inner.entries.lay_entries.Goals as goal

pub returns-in-Single : goal.returns-in-Single
returns-in-Single c =
    let a = c.args in
    let one = of_single a.store.now a.context c.in-Single.entry (sym c.record_of.ensures ∙ c.in-Single.is) in
    rw (← line_one a.store.now a.context c.requires one.0, ← one.1, ← one.2) c.lay_one.ensures

pub lay_many-requires : goal.lay_many-requires
lay_many-requires c =
    let a = c.args in
    let many = of_array a.store.now a.context _ _ (sym c.record_of.ensures ∙ c.in-Array.is) in
    rw (many.1, many.2) (known_pool a.store.now a.context c.requires many.0)

pub returns-in-Array : goal.returns-in-Array
returns-in-Array c =
    let a = c.args in
    let many = of_array a.store.now a.context _ _ (sym c.record_of.ensures ∙ c.in-Array.is) in
    rw (← line_many a.store.now a.context c.requires many.0, ← many.1, ← many.2) c.lay_many.ensures

pub returns-in_default : goal.returns-in_default
returns-in_default c =
    let a = c.args in
    let other = c.in_default in
    let zero = known_root a.store.now a.context c.requires (λ e. other.not-Single _ (c.record_of.ensures ∙ record_single _ _ _ e))
    (λ e. other.not-Array _ _ (c.record_of.ensures ∙ record_array _ _ _ e)) in
    rw (← line_zero a.store.now a.context c.requires zero) c.lay_one-in_default.ensures
