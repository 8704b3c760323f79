-- The checks of the set; then the answer.
use mathlib.Core.Path.{refl, ap, ◌∙◌}
use mathlib.Core.List.{[]}
use Rattle.std.proofs.lemmas.Result.{err_from_is_err_and}
use Rattle.groups.specs.Answers.{Answer}
use Rattle.verdicts.specs.Calls.{alternative, verdict_left, single_viable_alt_call}
use Rattle.verdicts.specs.Opened.{left_refused, left_answered}
use Rattle.verdicts.proofs.single.single_viable_alt.Goals as goal

pub returns-in_err-open_set : goal.returns-in_err-open_set
unfolding single_viable_alt_call
returns-in_err-open_set c =
    let a = c.args in
    let p = err_from_is_err_and c.from_residual.result c.from_residual.ensures.1 in
    rw (p.1, p.2) (left_refused a.store.now a.set.now a.scratch.now 0 [] _ [] refl [] _ c.open_set.new.scratch (rw c.in_err-open_set.was at c.open_set.ensures))

pub returns : goal.returns
unfolding single_viable_alt_call
returns c =
    let a = c.args in
    let s = rw c.in_ok-open_set.was at c.open_set.ensures in
    ap (λ (x : Answer). verdict_left (alternative x) c.clear.new.words []) c.viable_alt-one.ensures.0
    ∙ left_answered a.store.now a.set.now a.scratch.now 0 [] _ [] refl c.viable_alt-one.new.scratch c.clear.new.words c.viable_alt-one.ensures.1.lent c.clear.ensures c.open_set.new.scratch s
