-- The checks of the set; then the answer.
use mathlib.Core.Path.{refl, ap, ◌∙◌}
use mathlib.Core.List.{[]}
use mathlib.Core.Bool.{Bool}
use Rattle.std.proofs.lemmas.Result.{err_from_is_err_and}
use Rattle.grouping.specs.Clash.{configs_of}
use Rattle.deciding.specs.Picked.{conflict_picked}
use Rattle.verdicts.specs.Calls.{says, verdict_left, all_subsets_conflict_call}
use Rattle.verdicts.specs.Opened.{left_refused, left_answered}
use Rattle.verdicts.proofs.subsets.all_subsets_conflict.Goals as goal

pub returns-in_err-open_set : goal.returns-in_err-open_set
unfolding all_subsets_conflict_call
returns-in_err-open_set c =
    let a = c.args in
    let p = err_from_is_err_and c.from_residual.result c.from_residual.ensures.1 in
    rw (p.1, p.2) (left_refused a.store.now a.set.now a.scratch.now 0 [] _ [] refl [] _ c.open_set.new.scratch (rw c.in_err-open_set.was at c.open_set.ensures))

pub returns : goal.returns
unfolding all_subsets_conflict_call
returns c =
    let a = c.args in
    let s = rw c.in_ok-open_set.was at c.open_set.ensures in
    ap (λ (x : Bool). verdict_left (says x) c.clear.new.words []) (c.each_picked-yes.ensures.0 ∙ conflict_picked (configs_of a.set.now))
    ∙ left_answered a.store.now a.set.now a.scratch.now 0 [] _ [] refl c.each_picked-yes.new.scratch c.clear.new.words c.each_picked-yes.ensures.1.lent c.clear.ensures c.open_set.new.scratch s
