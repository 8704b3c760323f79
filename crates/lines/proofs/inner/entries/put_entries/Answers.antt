-- What is left to lay gives the whole: a turn lays the next entry.
use mathlib.Core.Path.{ap}
use Prim.Native.Nat.{◌+◌, ◌-◌}
use Rattle.layout.specs.declared.entry.Entry.{Entry}
use Rattle.lines.specs.Lines.{entries_bytes}
use Rattle.lines.specs.Entries.{entry_bytes, pool_node}
use Rattle.lines.specs.Laid.Laws.{rest_step, rest_done, rest_room}
use Rattle.lines.specs.Entries.Laws.{pool_first, pool_none}
use Rattle.lines.proofs.inner.entries.put_entries.Goals as goal

pub put_entry-next-requires : goal.put_entry-next-requires
put_entry-next-requires c =
    let args = c.args in
    let pre = c.requires in
    let loop = c.loop-i in
    rest_room loop.invariant (entry_bytes c.pool_entry.result.state.0 c.pool_entry.result.parent.0)
    (entries_bytes (pool_node args.store.now (args.from + (loop.i + 1)) (args.n - (loop.i + 1))))
    (pool_first args.store.now args.from args.n pre.0 loop.i c.pool_entry.result.state.0 c.pool_entry.result.parent.0
    c.loop-i-test.true (ap (λ (x : Entry). x.state.0) c.pool_entry.ensures) (ap (λ (x : Entry). x.parent.0) c.pool_entry.ensures))

pub loop-i-preserved : goal.loop-i-preserved
loop-i-preserved c =
    let args = c.args in
    let pre = c.requires in
    let loop = c.loop-i in
    let loop-test = c.loop-i-test in
    rest_step loop.invariant _
    (pool_first args.store.now args.from args.n pre.0 loop.i c.pool_entry.result.state.0 c.pool_entry.result.parent.0
    loop-test.true (ap (λ (x : Entry). x.state.0) c.pool_entry.ensures) (ap (λ (x : Entry). x.parent.0) c.pool_entry.ensures))
    c.put_entry-next.ensures

pub returns : goal.returns
returns c =
    let args = c.args in
    let pre = c.requires in
    rest_done c.loop-i.invariant (pool_none args.store.now args.from args.n pre.0 c.loop-i.i c.loop-i-test.false)
