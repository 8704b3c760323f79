-- One entry is put on the stack and interned; the scratch is cleared.
use mathlib.Core.Path.{◌∙◌}
use Rattle.store.specs.Admit.{cleared}
use Rattle.interning.specs.Live.{live_count}
use Rattle.interning.specs.SingletonCall.Laws.{placed_single}
use Rattle.interning.proofs.Outcomes.{single_pushed, single_place, interned_left, interned_length}
use Rattle.interning.proofs.single.place_single.Goals as goal

pub intern_entries-placed-requires : goal.intern_entries-placed-requires
intern_entries-placed-requires c =
    let args = c.args in
    let pre = c.requires in
    let put-entry = c.put_entry in
    let known = rw (live_count pre.0) at pre.1 in (
      single_pushed args.store.now args.scratch.now pre.0 args.parent.0 args.state.0 pre.1 pre.2 put-entry.new.scratch
          put-entry.ensures,
      known,
      known,
    )

pub returns : goal.returns
unfolding placed_single
returns c =
    let args = c.args in
    let pre = c.requires in
    let put-entry = c.put_entry in
    let intern-entries = c.intern_entries-placed in
    let zero = c.clear.ensures ∙ cleared intern-entries.new.scratch
    (interned_length args.store.now put-entry.new.scratch 0 1 intern-entries.result intern-entries.new.store intern-entries.new.scratch
    (single_pushed args.store.now args.scratch.now pre.0 args.parent.0 args.state.0 pre.1 pre.2 put-entry.new.scratch
    put-entry.ensures).stacked.sized intern-entries.ensures) in
    rw zero (interned_left args.store.now put-entry.new.scratch 0 1 _ intern-entries.result
    intern-entries.new.store intern-entries.new.scratch
    (single_place args.store.now args.scratch.now pre.0 args.parent.0 args.state.0 pre.1 pre.2
    put-entry.new.scratch put-entry.ensures)
    intern-entries.ensures)
