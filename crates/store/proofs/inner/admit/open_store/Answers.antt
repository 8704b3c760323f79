-- A wrong length is refused first; then each answer is that on the arrays.
use Rattle.std.proofs.Common.{◌≡◌}
use Rattle.std.proofs.lemmas.Result.{err_from_is_err_and}
use Rattle.words.specs.declared.refusals.Refusal.TheVariants.{WrongLength}
use Rattle.store.specs.Admit.{short_store, short_scratch}
use Rattle.store.proofs.inner.admit.open_store.Goals as goal

pub returns-in_err-store-clause-opened : goal.returns-in_err-store-clause-opened
returns-in_err-store-clause-opened c =
    let a = c.args in
    let off = c.in_err-store in
    let f : off.field-0.0 ≡ WrongLength = let v = rw off.ensures.ok_part at off.ensures.value in cc in
    let p = err_from_is_err_and c.from_residual.result c.from_residual.ensures.1 in
    rw (p.1, p.2, f) (λ go. short_store a.store.now a.scratch.now go (rw off.ensures.ok_part at c.as_array.ensures.cases))

pub returns-in_err-scratch-clause-opened : goal.returns-in_err-scratch-clause-opened
returns-in_err-scratch-clause-opened c =
    let a = c.args in
    let off = c.in_err-scratch in
    let f : off.field-0.0 ≡ WrongLength = let v = rw off.ensures.ok_part at off.ensures.value in cc in
    let p = err_from_is_err_and c.from_residual-in_err-scratch.result c.from_residual-in_err-scratch.ensures.1 in
    rw (p.1, p.2, f) (λ go. short_scratch a.store.now a.scratch.now go (rw off.ensures.ok_part at c.as_mut_array.ensures.cases))

pub returns-in_err-open_words-clause-opened : goal.returns-in_err-open_words-clause-opened
returns-in_err-open_words-clause-opened c =
    let w = rw c.in_ok-store.ensures.ok_part at c.as_array.ensures.cases in
    let z = rw c.in_ok-scratch.ensures.ok_part at c.as_mut_array.ensures.cases in
    let p = err_from_is_err_and c.from_residual-in_err-open_words.result c.from_residual-in_err-open_words.ensures.1 in
    rw (p.1, p.2, ← w.same, ← z.same) (rw c.in_err-open_words.was at c.open_words.ensures)

pub returns-clause-opened : goal.returns-clause-opened
returns-clause-opened c =
    let w = rw c.in_ok-store.ensures.ok_part at c.as_array.ensures.cases in
    let z = rw c.in_ok-scratch.ensures.ok_part at c.as_mut_array.ensures.cases in
    rw (← w.same, ← z.same) (rw c.in_ok-open_words.was at c.open_words.ensures)
