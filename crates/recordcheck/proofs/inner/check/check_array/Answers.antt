-- Each test that fails says that the record is not good; the last is the lookup.
use native.Mathlib.Omega.{arith}
use Rattle.layout.specs.Records.{of_array}
use Rattle.recordcheck.specs.Judge.{array_gap, array_short, array_past, array_unsound, many_fresh, many_good, many_bad}
use Rattle.recordcheck.proofs.inner.check.check_array.Goals as goal

pub returns-then-from-pool : goal.returns-then-from-pool
returns-then-from-pool c =
    let pre = c.requires in
    let many = of_array c.args.store.now c.args.context c.args.from c.args.n pre.2 in
    (array_gap pre.0 pre.1 many.0 many.1 many.2 c.if-from-pool.true, pre.0.index.sized)

pub returns-then-n-lt2 : goal.returns-then-n-lt2
returns-then-n-lt2 c =
    let pre = c.requires in
    let many = of_array c.args.store.now c.args.context c.args.from c.args.n pre.2 in
    (array_short pre.0 pre.1 many.0 many.1 many.2 c.if-n-lt2.true, pre.0.index.sized)

pub returns-then-pool-n : goal.returns-then-pool-n
returns-then-pool-n c =
    let pre = c.requires in
    let many = of_array c.args.store.now c.args.context c.args.from c.args.n pre.2 in
    (array_past pre.0 pre.1 many.0 many.1 many.2 c.if-from-pool.false c.if-pool-n.true, pre.0.index.sized)

pub returns-then-not-entries_sound : goal.returns-then-not-entries_sound
returns-then-not-entries_sound c =
    let pre = c.requires in
    let many = of_array c.args.store.now c.args.context c.args.from c.args.n pre.2 in
    (array_unsound pre.0 pre.1 many.0 many.1 many.2 (rw c.if-not-entries_sound.true at c.entries_sound.ensures), pre.0.index.sized)

pub check_new-requires : goal.check_new-requires
check_new-requires c =
    let pre = c.requires in
    let many = of_array c.args.store.now c.args.context c.args.from c.args.n pre.2 in
    let if1 = c.if-from-pool in
    let entries-sound = c.entries_sound in
    let if4 = c.if-not-entries_sound in
    let load-entries = c.load_entries in
    many_fresh pre.0 pre.1 many.0 many.1 many.2 if1.false (omega arith) (omega (arith, if1.false, pre.0.within))
    (rw (if4.false) at entries-sound.ensures) load-entries.new.scratch load-entries.ensures

pub returns-then-check_new : goal.returns-then-check_new
returns-then-check_new c =
    let pre = c.requires in
    let many = of_array c.args.store.now c.args.context c.args.from c.args.n pre.2 in
    let if1 = c.if-from-pool in
    let entries-sound = c.entries_sound in
    let if4 = c.if-not-entries_sound in
    let load-entries = c.load_entries in
    let check-new = c.check_new in
    many_good pre.0 pre.1 many.0 many.1 many.2 if1.false (omega arith) (omega (arith, if1.false, pre.0.within))
    (rw (if4.false) at entries-sound.ensures) load-entries.new.scratch load-entries.ensures
    check-new.new.scratch (rw c.if-check_new.true at check-new.ensures)

pub returns : goal.returns
returns c =
    let pre = c.requires in
    let many = of_array c.args.store.now c.args.context c.args.from c.args.n pre.2 in
    let if1 = c.if-from-pool in
    let entries-sound = c.entries_sound in
    let if4 = c.if-not-entries_sound in
    let load-entries = c.load_entries in
    let check-new = c.check_new in
    many_bad pre.0 pre.1 many.0 many.1 many.2 if1.false (omega arith) (omega (arith, if1.false, pre.0.within))
    (rw (if4.false) at entries-sound.ensures) load-entries.new.scratch load-entries.ensures
    check-new.new.scratch (rw c.if-check_new.false at check-new.ensures)
