-- By record: an array's length is its size, and any other record has one entry.
use mathlib.Core.Path.{sym, ◌∙◌}
use Rattle.layout.specs.Records.{of_array, record_array}
use Rattle.entries.specs.Reading.{size_many, size_other}
use Rattle.entries.proofs.reads.entry_count.Goals as goal

pub returns-in-Array : goal.returns-in-Array
returns-in-Array c =
    let many = of_array c.args.store.now c.args.context.0 _ _ (sym c.record_of.ensures ∙ c.in-Array.is) in
    many.2 ∙ sym (size_many c.requires many.0)

pub returns-in_default : goal.returns-in_default
returns-in_default c = sym (size_other c.requires (λ e. c.in_default.not-Array _ _ (c.record_of.ensures ∙ record_array _ _ _ e)))
