-- By record: a singleton's own entry, a place of the pool, or `$` over 0.
use native.Mathlib.Omega.{arith}
use mathlib.Core.Path.{sym, ap, ◌∙◌}
use Prim.Native.Nat.{ℕ, ◌+◌}
use Rattle.layout.specs.Layout.{parent, state}
use Rattle.layout.specs.Records.{of_single, of_array, record_single, record_array}
use Rattle.layout.specs.declared.entry.Entry.{Entry}
use Rattle.entries.specs.Reading.{is_root, entry_zero, entry_one, entry_many, many_place}
use Rattle.entries.proofs.reads.entry.Goals as goal

pub returns-in-Single : goal.returns-in-Single
returns-in-Single c =
    let args = c.args in
    let one = of_single args.store.now args.context.0 c.in-Single.entry (sym c.record_of.ensures ∙ c.in-Single.is) in
    let e = entry_one c.requires.0 args.index c.requires.1 one.0 in
    (one.1 ∙ e.0, one.2 ∙ e.1)

pub overflow_add-from : goal.overflow_add-from
overflow_add-from c =
    let args = c.args in
    let many = of_array args.store.now args.context.0 _ _ (sym c.record_of.ensures ∙ c.in-Array.is) in
    omega (arith, many.1, many_place c.requires.0 args.index c.requires.1 many.0)

pub pool_entry-requires : goal.pool_entry-requires
pool_entry-requires c =
    let args = c.args in
    let many = of_array args.store.now args.context.0 _ _ (sym c.record_of.ensures ∙ c.in-Array.is) in
    omega (arith, many.1, many_place c.requires.0 args.index c.requires.1 many.0)

pub returns-in-Array : goal.returns-in-Array
returns-in-Array c =
    let args = c.args in
    let words = args.store.now in
    let many = of_array words args.context.0 _ _ (sym c.record_of.ensures ∙ c.in-Array.is) in
    let e = entry_many c.requires.0 args.index c.requires.1 many.0 in (
      ap (λ (x : Entry). x.parent.0) c.pool_entry.ensures ∙ ap (λ (x : ℕ). parent words (x + args.index)) many.1 ∙ e.0,
      ap (λ (x : Entry). x.state.0) c.pool_entry.ensures ∙ ap (λ (x : ℕ). state words (x + args.index)) many.1 ∙ e.1,
    )

pub returns-in_default : goal.returns-in_default
returns-in_default c =
    let other = c.in_default in
    let zero = is_root c.requires.0 (λ e. other.not-Single _ (c.record_of.ensures ∙ record_single _ _ _ e))
    (λ e. other.not-Array _ _ (c.record_of.ensures ∙ record_array _ _ _ e)) in
    entry_zero c.requires.0 c.args.index c.requires.1 zero
