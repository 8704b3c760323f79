-- By record: a singleton, an array of as many entries, or another.
use Rattle.std.proofs.Common.{◌≡◌, sym, ◌∙◌, ne_eqb, arith}
use Rattle.layout.specs.Layout.{first, second}
use Rattle.layout.specs.Decode.Laws.{node_one, node_many}
use Rattle.layout.specs.Records.{of_single, of_array, record_single, record_array}
use Rattle.index.specs.Same.{single_entry, pool_512, kind_one_other, kind_two_other, kind_zero_other}
use Rattle.index.proofs.find.same_record.Goals as goal

pub returns-then-n-eq1 : goal.returns-then-n-eq1
returns-then-n-eq1 c =
    let a = c.args in
    let one = of_single a.store.now a.candidate c.in-Single.entry (sym c.record_of.ensures ∙ c.in-Single.is) in
    c.eq.ensures ∙ rw (c.stack_entry.ensures, node_one a.store.now a.candidate one.0, c.if-n-eq1.true, one.1, one.2)
    (single_entry a.scratch.now a.at (rw c.if-n-eq1.true at c.requires.stacked.1) (first a.store.now a.candidate) (second a.store.now a.candidate))

pub returns-else-n-eq1 : goal.returns-else-n-eq1
returns-else-n-eq1 c =
    let a = c.args in
    let r = c.requires in
    let one = of_single a.store.now a.candidate c.in-Single.entry (sym c.record_of.ensures ∙ c.in-Single.is) in
    ne_eqb a.n 1 c.if-n-eq1.false
    ∙ sym
    (kind_one_other a.store.now a.scratch.now a.count a.candidate a.at a.n r.records.0 r.records.1 r.stacked.0 r.stacked.1 one.0 c.if-n-eq1.false)

pub same_entries-requires-clause-pool : goal.same_entries-requires-clause-pool
same_entries-requires-clause-pool c =
    let a = c.args in
    let r = c.requires in
    let many = of_array a.store.now a.candidate _ _ (sym c.record_of.ensures ∙ c.in-Array.is) in
    let length : second a.store.now a.candidate ≡ a.n = sym many.2 ∙ c.if-length-n.true in (
      omega (arith, r.records.0.within a.candidate r.records.1 many.0, many.1, length),
      rw (many.1, ← length) (pool_512 a.store.now a.scratch.now a.count a.candidate a.at a.n r.records.0 r.records.1 r.stacked.0 r.stacked.1 many.0),
    )

pub returns-then-length-n : goal.returns-then-length-n
returns-then-length-n c =
    let a = c.args in
    let many = of_array a.store.now a.candidate _ _ (sym c.record_of.ensures ∙ c.in-Array.is) in
    let length : second a.store.now a.candidate ≡ a.n = sym many.2 ∙ c.if-length-n.true in
    c.same_entries.ensures ∙ rw (node_many a.store.now a.candidate many.0, many.1, length)

pub returns-else-length-n : goal.returns-else-length-n
returns-else-length-n c =
    let a = c.args in
    let r = c.requires in
    let many = of_array a.store.now a.candidate _ _ (sym c.record_of.ensures ∙ c.in-Array.is) in
    ne_eqb _ a.n c.if-length-n.false
    ∙ sym
    (kind_two_other a.store.now a.scratch.now a.count a.candidate a.at a.n r.records.0 r.records.1 r.stacked.0 r.stacked.1 many.0
    (λ e. c.if-length-n.false (many.2 ∙ e)))

pub returns-in_default : goal.returns-in_default
returns-in_default c =
    let a = c.args in
    let r = c.requires in
    sym
    (kind_zero_other a.store.now a.scratch.now a.count a.candidate a.at a.n r.records.0 r.records.1 r.stacked.0 r.stacked.1
    (λ e. c.in_default.not-Single _ (c.record_of.ensures ∙ record_single _ _ _ e))
    (λ e. c.in_default.not-Array _ _ (c.record_of.ensures ∙ record_array _ _ _ e)))
