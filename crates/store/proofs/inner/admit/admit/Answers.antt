-- What `open_store` said, and then the context's number.
use mathlib.Core.Path.{◌∙◌}
use Rattle.std.proofs.lemmas.Result.{err_from_is_err_and}
use Rattle.store.specs.Admit.{opened_ready, refused_first, admits_known, admits_unknown, cleared}
use Rattle.store.proofs.inner.admit.admit.Goals as goal

pub returns-in_err-store : goal.returns-in_err-store
returns-in_err-store c =
    let args = c.args in
    let a = c.open_store in
    let p = err_from_is_err_and c.from_residual.result c.from_residual.ensures.1 in
    rw (p.1, p.2) (refused_first args.store.now args.scratch.now a.new.scratch args.context.0 a.result _ c.in_err-store.was a.ensures.opened)

pub returns-then-context-count_of : goal.returns-then-context-count_of
returns-then-context-count_of c =
    let args = c.args in
    let a = c.open_store in
    let was = c.in_ok-store.was in
    let same = rw was at a.ensures.same in
    admits_known args.store.now args.scratch.now a.new.scratch args.context.0 a.result _ was a.ensures.opened
    (rw (c.count_of.ensures, same) at c.if-context-count_of.true)

pub returns : goal.returns
returns c =
    let args = c.args in
    let a = c.open_store in
    let was = c.in_ok-store.was in
    let same = rw was at a.ensures.same in
    admits_unknown args.store.now args.scratch.now a.new.scratch args.context.0 a.result _ was a.ensures.opened
    (rw (c.count_of.ensures, same) at c.if-context-count_of.false) _
    (c.clear.ensures ∙ cleared a.new.scratch
    (opened_ready args.store.now args.scratch.now a.new.scratch args.context.0 a.result _ was a.ensures.opened).index.sized)
