-- Lengths, then the store, then the set: each refusal is the first that is due.
use Rattle.std.proofs.lemmas.Result.{err_from_is_err_and}
use Rattle.setcheck.specs.Opened.{short_set, refused_store, unsound_set, ready_set}
use Rattle.setcheck.proofs.inner.open.open_set.Goals as goal

pub returns-then-set-ne-SET_WORDS : goal.returns-then-set-ne-SET_WORDS
returns-then-set-ne-SET_WORDS c =
    let args = c.args in
    short_set args.store.now args.set.now args.scratch.now c.if-set-ne-SET_WORDS.true

pub returns-in_err-store : goal.returns-in_err-store
returns-in_err-store c =
    let args = c.args in
    let p = err_from_is_err_and c.from_residual.result c.from_residual.ensures.1 in
    rw (p.1, p.2) (refused_store args.store.now args.set.now args.scratch.now c.if-set-ne-SET_WORDS.false _ c.open_store.new.scratch
    (rw c.in_err-store.was at c.open_store.ensures.opened))

pub returns-then-check_set : goal.returns-then-check_set
returns-then-check_set c =
    let args = c.args in
    let same = rw c.in_ok-store.was at c.open_store.ensures.same in
    ready_set args.store.now args.set.now args.scratch.now c.if-set-ne-SET_WORDS.false c.open_store.new.scratch c.check_set.new.scratch
    (rw c.in_ok-store.was at c.open_store.ensures.opened) (rw (c.if-check_set.true, c.count_of-contexts.ensures, same) at c.check_set.ensures)

pub returns : goal.returns
returns c =
    let args = c.args in
    let same = rw c.in_ok-store.was at c.open_store.ensures.same in
    unsound_set args.store.now args.set.now args.scratch.now c.if-set-ne-SET_WORDS.false c.open_store.new.scratch c.check_set.new.scratch
    (rw c.in_ok-store.was at c.open_store.ensures.opened) (rw (c.if-check_set.false, c.count_of-contexts.ensures, same) at c.check_set.ensures)
    c.clear.new.words c.clear.ensures
