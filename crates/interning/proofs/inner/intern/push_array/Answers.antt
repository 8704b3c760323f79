-- The entries go into the pool and the record is written, counted and indexed; or a ceiling is reached.
use native.Mathlib.Omega.{arith}
use mathlib.Core.Path.{refl}
use Rattle.interning.specs.Live.{live_sound}
use Rattle.interning.specs.Making.{no_context, no_entries, read_array}
use Rattle.interning.proofs.inner.intern.push_array.Goals as goal

pub returns-then-count-ge-MOST_CONTEXTS : goal.returns-then-count-ge-MOST_CONTEXTS
returns-then-count-ge-MOST_CONTEXTS c =
    let pre = c.requires in (
      refl,
      no_context pre.0
          (rw c.count_of-count.ensures at c.if-count-ge-MOST_CONTEXTS.true),
      refl,
      refl,
    )

pub overflow_sub-used : goal.overflow_sub-used
overflow_sub-used c =
    let pre = c.requires in
    omega (arith, c.used_of-used.ensures, (live_sound pre.0.pushed.live).counted.2)

pub returns-then-used-n : goal.returns-then-used-n
returns-then-used-n c =
    let pre = c.requires in (
      refl,
      no_entries pre.0 pre.1
          (rw c.used_of-used.ensures at c.if-used-n.true),
      refl,
      refl,
    )

pub returns : goal.returns
returns c =
    let pre = c.requires in
    let count_of = c.count_of-count in
    let used-of = c.used_of-used in
    let if1 = c.if-count-ge-MOST_CONTEXTS in
    let if2 = c.if-used-n in
    let fill-pool = c.fill_pool in
    let put_record = c.put_record in
    let put-counts = c.put_counts in
    let add-to-index = c.add_to_index in
    let made = read_array pre.0 count_of.result used-of.result
    count_of.ensures used-of.ensures put-counts.new.store add-to-index.new.scratch add-to-index.ensures pre.1 if1.false if2.false
    fill-pool.new.store put_record.new.store fill-pool.ensures put_record.ensures put-counts.ensures in
    (made.0, made.1, omega arith)
