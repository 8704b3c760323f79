-- The words are cleared and the count set, as the definition has it.
use Rattle.std.proofs.Common.{◌≡◌}
use Rattle.std.proofs.lemmas.Result.{err_from_is_err_and}
use Rattle.words.specs.declared.refusals.Refusal.TheVariants.{WrongLength}
use Rattle.store.proofs.FreshWords.{fresh_words, fresh_refused}
use Rattle.store.proofs.renew.fresh.Goals as goal

pub returns-in_err-store : goal.returns-in_err-store
returns-in_err-store c =
    let off = c.in_err-store in
    let f : off.field-0.0 ≡ WrongLength = let v = rw off.ensures.ok_part at off.ensures.value in cc in
    let p = err_from_is_err_and c.from_residual.result c.from_residual.ensures.1 in
    rw (p.1, p.2, f) (fresh_refused c.args.store.now (rw off.ensures.ok_part at c.as_mut_array.ensures.cases))

pub returns : goal.returns
returns c =
    let whole = rw c.in_ok-store.ensures.ok_part at c.as_mut_array.ensures.cases in
    rw (c.clear.ensures, whole.same) (fresh_words c.args.store.now whole.long)
