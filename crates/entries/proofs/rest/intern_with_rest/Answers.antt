-- A turn pushes one entry more, by `tail_turn`; then all that was pushed is interned.
use native.Mathlib.Omega.{arith}
use Rattle.entries.specs.Rest.{live_known, tail_turn, finished}
use Rattle.entries.proofs.rest.intern_with_rest.Goals as goal

pub entry_count-count-requires : goal.entry_count-count-requires
entry_count-count-requires c =
    let pre = c.requires.0 in
    let args = c.args in
    live_known pre.live args.context.0 pre.known

pub entry-taken-requires : goal.entry-taken-requires
entry-taken-requires c =
    let loop = c.loop-next in
    let pre = c.requires.0 in
    let args = c.args in
    (live_known pre.live args.context.0 pre.known, omega (arith, loop.invariant.0))

pub loop-next-preserved : goal.loop-next-preserved
loop-next-preserved c =
    let put-entry = c.put_entry in
    let entry = c.entry-taken in
    let loop = c.loop-next in
    let more = tail_turn loop.invariant.1 (omega (arith, loop.invariant.0)) entry.ensures.0 entry.ensures.1 _ put-entry.ensures in
    (loop.invariant.0, more)

pub returns : goal.returns
returns c =
    let intern-entries = c.intern_entries in
    let loop = c.loop-next in
    finished loop.invariant.1 (omega (arith, loop.invariant.0)) intern-entries.result intern-entries.new.store intern-entries.new.scratch intern-entries.ensures
