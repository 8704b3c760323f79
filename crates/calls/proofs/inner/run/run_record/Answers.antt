-- By the record.
use Rattle.calls.specs.Called.{call_singleton, call_merge, call_show, call_stops}
use Rattle.calls.proofs.inner.run.run_record.Goals as goal

pub returns-in-Singleton : goal.returns-in-Singleton
returns-in-Singleton c =
    let args = c.args in
    let singleton = c.singleton in
    call_singleton args.out.now args.bytes.now args.store.now args.set.now args.stops.now args.scratch.now args.call _ _
    c.in-Singleton.parent c.in-Singleton.state c.in-Singleton.is _ _ singleton.ensures

pub returns-in-Merge : goal.returns-in-Merge
returns-in-Merge c =
    let args = c.args in
    let merge = c.merge in
    call_merge args.out.now args.bytes.now args.store.now args.set.now args.stops.now args.scratch.now args.call _ _
    c.in-Merge.left c.in-Merge.right c.in-Merge.wildcard c.in-Merge.is _ _ merge.ensures

pub returns-in-Show : goal.returns-in-Show
returns-in-Show c =
    let args = c.args in
    let show = c.show in
    call_show args.out.now args.bytes.now args.store.now args.set.now args.stops.now args.scratch.now args.call _ _
    c.in-Show.context c.in-Show.is _ show.ensures

pub returns-in-Stops : goal.returns-in-Stops
returns-in-Stops c =
    let args = c.args in
    let wipe = c.wipe in
    let hold = c.hold in
    call_stops args.out.now args.bytes.now args.store.now args.set.now args.stops.now args.scratch.now args.call _ _
    c.in-Stops.at c.in-Stops.count c.in-Stops.is _ _ wipe.ensures hold.ensures
