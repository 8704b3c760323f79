-- The chain is followed link by link; what is known at a link is `Going`, and each step is a lemma of `Search`.
use mathlib.Core.Path.{sym, ◌∙◌}
use Rattle.index.specs.Search.{begin, hit, onward}
use Rattle.index.proofs.find.find_interned.Goals as goal

pub loop-next-init : goal.loop-next-init
loop-next-init c =
    let args = c.args in
    let pre = c.requires in
    (begin args.store.now args.scratch.now args.count args.at args.n args.hash pre c.bucket-chain.result
    c.bucket-chain.ensures.0 c.bucket-chain.ensures.1)

pub returns-then-same_record : goal.returns-then-same_record
returns-then-same_record c =
    let args = c.args in
    let pre = c.requires in
    let loop = c.loop-next in
    sym
    (hit args.store.now args.scratch.now args.count args.at args.n args.hash pre loop.next
    c.loop-next-test.true loop.invariant (sym c.if-same_record.true ∙ c.same_record.ensures))

pub loop-next-smaller : goal.loop-next-smaller
loop-next-smaller c =
    let args = c.args in
    let pre = c.requires in
    let loop = c.loop-next in
    rw c.link_of-next.ensures
    (onward args.store.now args.scratch.now args.count args.at args.n args.hash pre loop.next
    c.loop-next-test.true loop.invariant (sym c.if-same_record.false ∙ c.same_record.ensures)).1

pub loop-next-preserved : goal.loop-next-preserved
loop-next-preserved c =
    let args = c.args in
    let pre = c.requires in
    let loop = c.loop-next in
    rw c.link_of-next.ensures
    (onward args.store.now args.scratch.now args.count args.at args.n args.hash pre loop.next
    c.loop-next-test.true loop.invariant (sym c.if-same_record.false ∙ c.same_record.ensures)).0
