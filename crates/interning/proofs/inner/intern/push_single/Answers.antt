-- The record is written, counted and indexed; or there are 512 contexts already.
use native.Mathlib.Omega.{arith}
use mathlib.Core.Path.{refl, ap}
use Rattle.layout.specs.declared.entry.Entry.{Entry}
use Rattle.interning.specs.Live.{live_sound}
use Rattle.interning.specs.Making.{no_context, read_single}
use Rattle.interning.proofs.inner.intern.push_single.Goals as goal

pub returns-then-count-ge-MOST_CONTEXTS : goal.returns-then-count-ge-MOST_CONTEXTS
returns-then-count-ge-MOST_CONTEXTS c =
    let pre = c.requires in (
      refl,
      no_context pre
          (rw c.count_of-count.ensures at c.if-count-ge-MOST_CONTEXTS.true),
      refl,
      refl,
    )

pub put_counts-requires : goal.put_counts-requires
put_counts-requires c = (omega arith, omega (arith, c.used_of-used.ensures, (live_sound c.requires.pushed.live).counted.2))

pub returns : goal.returns
returns c =
    let pre = c.requires in
    let count_of = c.count_of-count in
    let used-of = c.used_of-used in
    let if1 = c.if-count-ge-MOST_CONTEXTS in
    let entry = c.stack_entry-entry in
    let put_record = c.put_record in
    let put-counts = c.put_counts in
    let add-to-index = c.add_to_index in
    let made = read_single pre count_of.result used-of.result count_of.ensures
    used-of.ensures put-counts.new.store add-to-index.new.scratch add-to-index.ensures refl if1.false
    entry.result.parent.0 entry.result.state.0 (ap (λ (x : Entry). x.parent.0) entry.ensures) (ap (λ (x : Entry). x.state.0) entry.ensures) put_record.new.store put_record.ensures
    put-counts.ensures in
    (made.0, made.1, omega arith)
