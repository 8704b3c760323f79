-- The checks of the set; then its flags get one more.
use Rattle.std.proofs.lemmas.Result.{err_from_is_err_and}
use Rattle.configs.specs.Settles.{close_refused, close_done}
use Rattle.configs.proofs.settle.close.Goals as goal

pub returns-in_err-open_set : goal.returns-in_err-open_set
returns-in_err-open_set c =
    let o = c.open_set in
    let args = c.args in
    let p = err_from_is_err_and c.from_residual.result c.from_residual.ensures.1 in
    rw (p.1, p.2) (close_refused args.store.now args.set.now args.scratch.now o.new.scratch _ (rw c.in_err-open_set.was at o.ensures))

pub returns : goal.returns
returns c =
    let o = c.open_set in
    let args = c.args in
    close_done args.store.now args.set.now args.scratch.now o.new.scratch (rw c.in_ok-open_set.was at o.ensures)
    c.flag_word.result c.flag_word.ensures c.with_flag.result c.with_flag.ensures c.clear.new.words c.clear.ensures
