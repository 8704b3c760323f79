-- Each test that fails says that the record is not good; the last is the lookup.
use native.Mathlib.Omega.{arith}
use Rattle.layout.specs.Records.{of_single}
use Rattle.recordcheck.specs.Judge.{single_not_older, single_stop, read_fresh, read_good, read_bad}
use Rattle.recordcheck.proofs.inner.check.check_single.Goals as goal

pub returns-then-context-parent : goal.returns-then-context-parent
returns-then-context-parent c =
    let pre = c.requires in
    let one = of_single c.args.store.now c.args.context c.args.entry pre.2 in
    (single_not_older pre.0 pre.1 one.0 one.1 one.2 c.if-context-parent.true, pre.0.index.sized)

pub returns-then-state : goal.returns-then-state
returns-then-state c =
    let pre = c.requires in
    let one = of_single c.args.store.now c.args.context c.args.entry pre.2 in
    (single_stop pre.0 pre.1 one.0 one.1 one.2 c.if-state.true, pre.0.index.sized)

pub check_new-requires : goal.check_new-requires
check_new-requires c =
    let pre = c.requires in
    let one = of_single c.args.store.now c.args.context c.args.entry pre.2 in
    let put-entry = c.put_entry in
    read_fresh pre.0 pre.1 one.0 one.1 one.2 (omega arith) (omega arith) put-entry.new.scratch put-entry.ensures

pub returns-then-check_new : goal.returns-then-check_new
returns-then-check_new c =
    let pre = c.requires in
    let one = of_single c.args.store.now c.args.context c.args.entry pre.2 in
    let put-entry = c.put_entry in
    let check-new = c.check_new in
    read_good pre.0 pre.1 one.0 one.1 one.2 (omega arith) (omega arith) put-entry.new.scratch put-entry.ensures
    check-new.new.scratch (rw c.if-check_new.true at check-new.ensures)

pub returns : goal.returns
returns c =
    let pre = c.requires in
    let one = of_single c.args.store.now c.args.context c.args.entry pre.2 in
    let put-entry = c.put_entry in
    let check-new = c.check_new in
    read_bad pre.0 pre.1 one.0 one.1 one.2 (omega arith) (omega arith) put-entry.new.scratch put-entry.ensures
    check-new.new.scratch (rw c.if-check_new.false at check-new.ensures)
