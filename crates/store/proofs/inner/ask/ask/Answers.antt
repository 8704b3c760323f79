-- What `admit` answered; where it let the call pass, the scratch is cleared. A wrong length of the store is refused first.
use Rattle.std.proofs.Common.{◌≡◌}
use Rattle.std.proofs.lemmas.Result.{err_from_is_err_and}
use Rattle.words.specs.declared.refusals.Refusal.TheVariants.{WrongLength}
use Rattle.store.specs.Admit.{store_refused}
use Rattle.store.specs.Asks.{asks_known, asks_refused}
use Rattle.store.proofs.inner.ask.ask.Goals as goal

pub returns-in_err-store-clause-asked : goal.returns-in_err-store-clause-asked
returns-in_err-store-clause-asked c =
    let a = c.args in
    let off = c.in_err-store in
    let f : off.field-0.0 ≡ WrongLength = let v = rw off.ensures.ok_part at off.ensures.value in cc in
    let p = err_from_is_err_and c.from_residual.result c.from_residual.ensures.1 in
    rw (p.1, p.2, f)
    (asks_refused a.store.now a.scratch.now a.context.0 WrongLength _
    (store_refused a.store.now a.scratch.now a.context.0 (rw off.ensures.ok_part at c.as_array.ensures.cases)))

pub returns-in_err-admit-clause-asked : goal.returns-in_err-admit-clause-asked
returns-in_err-admit-clause-asked c =
    let w = rw c.in_ok-store.ensures.ok_part at c.as_array.ensures.cases in
    let p = err_from_is_err_and c.from_residual-in_err-admit.result c.from_residual-in_err-admit.ensures.1 in
    rw (p.1, p.2, ← w.same) (asks_refused _ _ c.args.context.0 _ c.admit.new.scratch (rw c.in_err-admit.was at c.admit.ensures))

pub returns-clause-asked : goal.returns-clause-asked
returns-clause-asked c =
    let w = rw c.in_ok-store.ensures.ok_part at c.as_array.ensures.cases in
    rw (← w.same) (asks_known _ _ c.args.context.0 _ c.admit.new.scratch _ (rw c.in_ok-admit.was at c.admit.ensures) c.clear.ensures)
