-- Three ranges are all 0, or one of them is not.
use mathlib.Core.Path.{sym, ◌∙◌}
use mathlib.Core.Bool.{false≢true}
use Rattle.recordcheck.specs.Check.{Unused}
use Rattle.recordcheck.specs.Judge.{tells_if}
use Rattle.storecheck.specs.Judgements.{unused_of, zero_records, zero_parents, zero_states}
use Rattle.storecheck.proofs.inner.check.unused_zero.Goals as goal

pub returns-then-not-all_zero : goal.returns-then-not-all_zero
returns-then-not-all_zero c =
    let args = c.args in
    λ u. false≢true
    (sym (c.if-not-all_zero.true) ∙ c.all_zero.ensures ∙ zero_records args.store.now
    args.count args.used u)

pub returns-then-not-all_zero-2 : goal.returns-then-not-all_zero-2
returns-then-not-all_zero-2 c =
    let args = c.args in
    λ u. false≢true
    (sym (c.if-not-all_zero-2.true) ∙ c.all_zero-2.ensures ∙ zero_parents args.store.now
    args.count args.used u)

pub returns : goal.returns
returns c =
    let args = c.args in
    let all-zero = c.all_zero in
    let all-zero2 = c.all_zero-2 in
    tells_if (Unused args.store.now args.count args.used) c.all_zero-3.result
    (λ t. unused_of args.store.now args.count args.used
    (sym all-zero.ensures ∙ c.if-not-all_zero.false)
    (sym all-zero2.ensures ∙ c.if-not-all_zero-2.false) (sym c.all_zero-3.ensures ∙ t))
    (λ f u. false≢true (sym f ∙ c.all_zero-3.ensures ∙ zero_states args.store.now args.count args.used u))
