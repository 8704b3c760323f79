-- By the record on the set.
use Rattle.setcalls.specs.Called.{call_new, call_add, call_close, call_verdict, call_why}
use Rattle.setcalls.proofs.inner.run.run_set_record.Goals as goal

pub returns-in-NewSet : goal.returns-in-NewSet
returns-in-NewSet c =
    let args = c.args in
    let new-set = c.new_set in
    call_new args.out.now args.store.now args.set.now args.stops.now args.scratch.now args.call _ _
    c.in-NewSet.wildcard c.in-NewSet.is _ _ new-set.ensures

pub returns-in-Add : goal.returns-in-Add
returns-in-Add c =
    let args = c.args in
    let add = c.add in
    call_add args.out.now args.store.now args.set.now args.stops.now args.scratch.now args.call _ _
    c.in-Add.config c.in-Add.is _ _ _ add.ensures

pub returns-in-Verdict : goal.returns-in-Verdict
returns-in-Verdict c =
    let args = c.args in
    let verdict = c.verdict in
    call_verdict args.out.now args.store.now args.set.now args.stops.now args.scratch.now args.call _ _
    c.in-Verdict.is _ verdict.ensures

pub returns-in-Close : goal.returns-in-Close
returns-in-Close c =
    let args = c.args in
    let close = c.close in
    call_close args.out.now args.store.now args.set.now args.stops.now args.scratch.now args.call _ _
    c.in-Close.is _ _ close.ensures

pub returns-in-Why : goal.returns-in-Why
returns-in-Why c =
    let args = c.args in
    let why = c.why in
    call_why args.out.now args.store.now args.set.now args.stops.now args.scratch.now args.call _ _
    c.in-Why.is _ why.ensures
