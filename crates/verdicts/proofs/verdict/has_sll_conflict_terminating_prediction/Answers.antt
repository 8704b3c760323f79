-- The checks of the set, then that of the stop states; then the answer.
use mathlib.Core.Path.{refl, ap, ◌∙◌}
use mathlib.Core.List.{[]}
use mathlib.Core.Bool.{Bool}
use native.Mathlib.Omega.{arith}
use lib.ListN.{length}
use borrow.Author.Tests.{lt-ltb, le-ltb}
use Rattle.std.proofs.lemmas.Result.{err_from_is_err_and}
use Rattle.verdicts.specs.Calls.{says, verdict_left, most_stops, verdict_call}
use Rattle.verdicts.specs.Opened.{ready_lent, left_refused, left_passed, left_due}
use Rattle.verdicts.proofs.verdict.has_sll_conflict_terminating_prediction.Goals as goal

pub returns-in_err-open_set : goal.returns-in_err-open_set
unfolding verdict_call
returns-in_err-open_set c =
    let a = c.args in
    let p = err_from_is_err_and c.from_residual.result c.from_residual.ensures.1 in
    rw (p.1, p.2) (left_refused a.store.now a.set.now a.scratch.now 0 [] _ [] refl _ _ c.open_set.new.scratch (rw c.in_err-open_set.was at c.open_set.ensures))

pub returns-then-stops-gt-MOST_STOPS : goal.returns-then-stops-gt-MOST_STOPS
unfolding verdict_call
returns-then-stops-gt-MOST_STOPS c =
    let a = c.args in
    let s = rw c.in_ok-open_set.was at c.open_set.ensures in
    left_due a.store.now a.set.now a.scratch.now 0 [] _ [] refl c.open_set.new.scratch c.clear.new.words (ready_lent s.0).lent c.clear.ensures
    10 (λ q. omega arith) _ (lt-ltb most_stops (length a.stops.now) c.if-stops-gt-MOST_STOPS.true) c.open_set.new.scratch s

pub returns : goal.returns
unfolding verdict_call
returns c =
    let a = c.args in
    let yes = c.decide-yes in
    let s = rw c.in_ok-open_set.was at c.open_set.ensures in
    ap (λ (b : Bool). verdict_left (says b) c.clear-2.new.words []) yes.ensures.0
    ∙ left_passed a.store.now a.set.now a.scratch.now 0 [] _ [] refl yes.new.scratch c.clear-2.new.words yes.ensures.1.lent c.clear-2.ensures
    10 _ (le-ltb most_stops (length a.stops.now) c.if-stops-gt-MOST_STOPS.false) c.open_set.new.scratch s
